-- `reason`: a question that is not refused is answered by why the state fell.
use Rattle.tables.proofs.Checking.{in_states, in_force}
use Rattle.tables.proofs.Reasoning.{reason_answer_lem}
use Rattle.tables.proofs.Refusing.{answered_ok}
use Rattle.tables.proofs.table.Table.reason.Goals as goal

pub why-requires : goal.why-requires
why-requires g c = record { inside = in_states c.args.self.now c.args.state (answered_ok _ tt tt c.in_ok-question.ensures).0 }

pub returns : goal.returns
returns g c sound =
    let asked = (answered_ok _ tt tt c.in_ok-question.ensures).0 in
    let why = c.why.ensures sound (in_force c.args.self.now c.args.state asked) in
    reason_answer_lem g.K.Amount.kind g.met.K.Amount.laws _ c.args.state (in_states c.args.self.now c.args.state asked) c.ok_or.result asked (rw why at c.ok_or.ensures.value)
