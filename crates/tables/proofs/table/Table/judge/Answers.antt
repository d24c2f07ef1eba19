-- `judge`: the rounds are run over a sound table, and a verdict is in force.
use Rattle.std.proofs.Common.{length, take, refl, ap, ◌∙◌}
use Rattle.tables.proofs.Checking.{all_checked}
use Rattle.tables.proofs.table.Table.judge.Goals as goal

pub returns : goal.returns
returns g c =
    let ran = c.rank_states-tally.ensures.ran in
    record {
      judged = λ sound some.
          all_checked g.met.K.Amount.laws c.args.self.now sound some _ (λ i. take (ran.held i) (ran.bands i).now) (λ i. length (ran.bands i).now) ran.places ran.states ran.start refl
          c.rank_states-tally.result (ran.ranked sound.proper.orderly) c.verdict_of.result (c.verdict_of.ensures.states ∙ ran.states) c.verdict_of.ensures.removed c.verdict_of.ensures.rounds (c.verdict_of.ensures.start ∙ c.rank_of.ensures);
      lent = record { bands = ap (λ b. b.ghost_name) ran.bands; ranks = ran.lent };
    }
