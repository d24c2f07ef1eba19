-- How long a line can be.
use Rattle.std.proofs.Common.{ℕ, ◌^◌, ◌<◌, ◌≤◌, length, arith, length-append}
use Rattle.std.proofs.lemmas.Fmt.{length-decimal-le}
use Rattle.records.specs.Encoding.{Sayable}
use Rattle.records.specs.Format.{Entry, band, name}
use Rattle.records.specs.declared.counts.Counts.{Counts}
use Rattle.text.proofs.Hexadecimal.{length-hexadecimal}
use Rattle.listings.specs.Listing.{line, counts_line}

-- the line of what a record can say
pub line_short : (e : Entry) (at : ℕ) → Sayable e at → length (line e) ≤ 35
line_short (band s t l h) at can =
    let source = length-decimal-le 3 s (omega arith) (omega arith) (omega arith) in
    let target = length-decimal-le 3 t (omega arith) (omega arith) (omega arith) in
    let low = length-decimal-le 10 l (omega arith) (omega arith) (omega arith) in
    let high = length-decimal-le 10 h (omega arith) (omega arith) (omega arith) in
    simp length-append (omega (arith, source, target, low, high))
line_short (name s p bs) at can =
    let state = length-decimal-le 3 s (omega arith) (omega arith) (omega arith) in
    simp (length-append, length-hexadecimal) (omega (arith, state, can.3))

pub counts_short : (counts : Counts) → counts.bands < 2 ^ 64 → counts.names < 2 ^ 64 → length (counts_line counts) ≤ 55
counts_short counts few_bands few_names =
    let bands = length-decimal-le 20 counts.bands (omega arith) (omega arith) few_bands in
    let names = length-decimal-le 20 counts.names (omega arith) (omega arith) few_names in
    simp length-append (omega (arith, bands, names))
