-- `probe::records::keep_record`: by the test of `is_marked`, which is the definition's; the three words that are stored read back
-- as current, the mark and the oldest. Assumes nothing.
use Rattle.std.specs.Int.{from_bool}
use Rattle.std.proofs.Common.{rules, ◌≡◌, refl, sym, ◌∙◌, Bool, true, false, w64, SFits, pos}
use Rattle.laws.specs.Bits.{plain}
use Rattle.probe.specs.Probed.{mark_of, record_with}
use Rattle.probe.proofs.records.keep_record.Goals as goal

-- a run mark is 1 or 0
mark : (active : Bool) → pos (from_bool active) ≡ mark_of active
mark true = refl
mark false = refl

pub returns-then-is_marked : goal.returns-then-is_marked
unfolding record_with
returns-then-is_marked c =
    let current : SFits w64 c.args.versions.current = search rules in
    let oldest : SFits w64 c.args.versions.oldest = search rules in
    simp (sym c.is_marked.ensures ∙ c.if-is_marked.true, plain _ current, plain _ oldest, plain c.from-mark.result (record { sfits = c.from-mark.type_inv }) ∙ c.from-mark.ensures ∙ mark c.args.versions.active)

pub returns-else-is_marked : goal.returns-else-is_marked
unfolding record_with
returns-else-is_marked c = rw (sym c.is_marked.ensures ∙ c.if-is_marked.false)
