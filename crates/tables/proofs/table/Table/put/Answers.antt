-- `put`: refused arguments, no free place, and a band in its place.
use Rattle.std.proofs.Common.{refl, ap}
use Rattle.std.proofs.lemmas.Result.{err_from_is_err_and}
use Rattle.tables.specs.Left.{band_asked}
use Rattle.tables.proofs.Setting as setting
use Rattle.tables.proofs.table.Table.put.Goals as goal

pub returns-in_err-band : goal.returns-in_err-band
returns-in_err-band g c = record {
  put = λ sound.
      let refusal = err_from_is_err_and c.from_residual.result c.from_residual.ensures.1 in
      rw (refusal.1, refusal.2) (setting.not_made g.K.Amount.kind c.args.self.now (band_asked c.args.asked) sound c.in_err-band.field-0.0 c.in_err-band.ensures);
  lent = record { bands = refl; ranks = refl };
}

pub returns-in_err-place : goal.returns-in_err-place
returns-in_err-place g c = record {
  put = λ sound.
      let refusal = err_from_is_err_and c.from_residual-in_err-place.result c.from_residual-in_err-place.ensures.1 in
      rw (refusal.1, refusal.2)
      (setting.not_placed g.K.Amount.kind c.args.self.now (band_asked c.args.asked) sound c.in_ok-band.band c.in_ok-band.ensures c.place.new.self c.in_err-place.field-0.0 (c.in_err-place.ensures.placed sound.proper.orderly.order));
  lent = record { bands = c.place.ensures.rest.lent; ranks = ap (λ r. r.ghost_name) c.place.ensures.rest.ranks };
}

pub returns : goal.returns
returns g c =
    let beside = c.place.ensures.rest in
    record {
      put = λ sound.
          setting.placed_in g.K.Amount.kind c.args.self.now (band_asked c.args.asked) sound c.in_ok-band.band c.in_ok-band.ensures c.place.new.self (c.in_ok-place.ensures.placed sound.proper.orderly.order)
          _ refl beside.places (ap (λ r. r.now) beside.ranks) beside.states beside.start refl;
      lent = record { bands = beside.lent; ranks = ap (λ r. r.ghost_name) beside.ranks };
    }
