-- The lines of a report: how long they can be, one state more, and the closing line.
use Rattle.std.proofs.Common.{◌≡◌, ℕ, suc, ◌+◌, ◌*◌, ◌<◌, ◌≤◌, Bool, true, false, cond, eqb, List, ◌++◌, length, Some, None, Ok, Err, Option, Result, subst, arith, length-append}
use Rattle.std.proofs.lemmas.Fmt.{length-decimal-le}
use Rattle.amounts.specs.Shares.{shares}
use Rattle.amounts.specs.declared.shares.Share.{Share}
use Rattle.tables.proofs.Refusing.{answered_ok}
use Rattle.tables.specs.Calls.{left_of, RankAnswer, Sound}
use Rattle.tables.specs.Left.{Left, model_in, rank_left, as_rank, question_refusal}
use Rattle.tables.specs.declared.table.Table.{Table}
use Rattle.text.proofs.Writes as writes
use Rattle.text.specs.Pages.{PutOn}
use Rattle.text.specs.declared.page.Page.{Page}
use Rattle.text.specs.declared.room.TooShort.{TooShort}
use Rattle.theory.proofs.Ranks.{bounded, rank_bounded}
use Rattle.theory.specs.Rounds.{removed_of, rounds_of}
use Rattle.reports.specs.Reporting.{state_line, state_lines, removed_line, report_lines}

state_short : (t rank : ℕ) → t < 256 → rank ≤ 256 → length (state_line t (as_rank rank)) ≤ 11
state_short t rank few low = by (eqb rank 0)
  where
    by : (none : Bool) → length (state_line t (cond none None (Some rank))) ≤ 11
    by true = let state = length-decimal-le 3 t (omega arith) (omega arith) (omega arith) in simp length-append (omega (arith, state))
    by false =
        let state = length-decimal-le 3 t (omega arith) (omega arith) (omega arith) in
        let round = length-decimal-le 3 rank (omega arith) (omega arith) (omega arith) in
        simp length-append (omega (arith, state, round))

removed_short : (removed states rounds : ℕ) → removed ≤ 256 → states ≤ 256 → rounds ≤ 256 → length (removed_line removed states rounds) ≤ 36
removed_short removed states rounds a b c =
    let fallen = length-decimal-le 3 removed (omega arith) (omega arith) (omega arith) in
    let all = length-decimal-le 3 states (omega arith) (omega arith) (omega arith) in
    let turns = length-decimal-le 3 rounds (omega arith) (omega arith) (omega arith) in
    simp length-append (omega (arith, fallen, all, turns))

-- the rank that a table answers for a state
pub rank_told : {t : Table Share} (state : ℕ) (rank : Option ℕ) → Sound shares t → (Sound shares t → RankAnswer shares (left_of t) state (Ok rank)) → rank ≡ as_rank (rank_left shares (left_of t) state)
rank_told {t} state rank sound answer =
    (answered_ok (question_refusal (left_of t) state) (as_rank (rank_left shares (left_of t) state)) rank (answer sound)).1

-- the lines of the first n states are put, on a page with room for all
pub record Lines (l : Left Share) (first page : Page) (n : ℕ) : Type 0 where
  pub put : PutOn first (state_lines l n) page (Ok tt)
  pub short : length (state_lines l n) ≤ 11 * n

pub lines_none : (l : Left Share) (first : Page) → first.at ≤ length first.bytes.now → Lines l first first 0
unfolding state_lines
lines_none l first within = record { put = writes.none_put first within; short = omega arith }

module _ {l : Left Share} {first page : Page} {n : ℕ} (lines : Lines l first page n) (few : l.states ≤ 256) (room : first.at + 4_096 ≤ length first.bytes.now) where
  module _ (inside : n < l.states) where
    abbrev line : List ℕ
    line = state_line n (as_rank (rank_left shares l n))

    line_fits : length line ≤ 11
    line_fits = state_short n (rank_left shares l n) (omega arith) (omega (arith, rank_bounded shares (model_in shares l) n))

    pub not_refused : {after : Page} {x : TooShort} → PutOn page line after (Err x) → ⊥
    not_refused = writes.not_refused lines.put line (omega (arith, length-append (state_lines l n) line, line_fits, lines.short))

    pub lines_more : (next : Page) → PutOn page line next (Ok tt) → Lines l first next (n + 1)
    unfolding state_lines
    lines_more next p =
        let one : suc n ≡ n + 1 = omega arith in
        subst (λ (k : ℕ). Lines l first next k) one
        (record {
          put = writes.then_put lines.put p;
          short = omega (arith, length-append (state_lines l n) line, line_fits, lines.short);
        })

  module _ (all : n ≡ l.states) where
    abbrev last : List ℕ
    last = removed_line (removed_of shares (model_in shares l)) l.states (rounds_of shares (model_in shares l))

    long : length (state_lines l l.states ++ last) ≤ 4_096
    long =
        let bound = bounded shares (model_in shares l) in
        let lines_short : length (state_lines l l.states) ≤ 11 * l.states = subst (λ (k : ℕ). length (state_lines l k) ≤ 11 * k) all lines.short in
        let last_short = removed_short (removed_of shares (model_in shares l)) l.states (rounds_of shares (model_in shares l)) (omega (arith, bound.1)) few (omega (arith, bound.0, bound.1)) in
        omega (arith, length-append (state_lines l l.states) last, lines_short, last_short)

    pub lines_all : {after : Page} {r : Result (Unit {0}) TooShort} → PutOn page last after r → PutOn first (report_lines l) after r × (length (report_lines l) ≤ 4_096)
    lines_all {after} {r} p =
        let put = subst (λ (k : ℕ). PutOn first (state_lines l k) page (Ok tt)) all lines.put in
        (writes.last_put put last (omega (arith, long, room)) r p, long)
