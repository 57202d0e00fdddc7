-- `blocks_saves::save_slots`: the number fits a word; a slot that is broken refuses (`slot-broken`), and one that is not is written
-- behind those before it (`slot-written`); the check makes the block whole (`slots_whole`). Assumes nothing.
use Rattle.std.proofs.Common.{◌≡◌, Bool, List, [], ℕ, ℤ, ◌+◌, refl, sym, ap, ◌∙◌, arith, Ok}
use Rattle.laws.specs.FirstLaws.{unless_refused, unless-done}
use Rattle.laws.specs.LowestLaws.{below_next}
use Rattle.versions.specs.declared.VersionRecord.{VersionRecord}
use Rattle.table.specs.Slots.{slot_at}
use Rattle.table.specs.SlotLaws.{lengths}
use Rattle.table_forms.specs.Formed.{broken}
use Rattle.blocks_words.specs.Longs.{block_slots}
use Rattle.blocks_loads.specs.LoadedSlots.{first_slot}
use Rattle.blocks_saves.specs.SlotBlockLaws.{slot-written, slots_whole, slot-broken, none-broken}
use Rattle.blocks_saves.proofs.save_slots.Goals as goal

abbrev broken_at : List ℤ → VersionRecord → ℕ → ℕ → Bool
broken_at table versions number j = broken (slot_at table (first_slot number + j)) versions

pub overflow_cast-number : goal.overflow_cast-number
overflow_cast-number c = record { fits = omega (arith, c.requires.within.high, (lengths c.args.table.now c.requires.within.sound).few) }

pub loop-j-init : goal.loop-j-init
loop-j-init c = record {
  written = c.write_word.ensures.after [] refl c.new-draft.ensures;
  formed = λ i h. absurd (omega arith);
}

pub returns-then-broken : goal.returns-then-broken
returns-then-broken c =
    let tested = rw c.slot_at-x.ensures at c.is_broken-broken.ensures in
    unless_refused _ (slot-broken _ _ _ c.loop-j.j (omega arith) (sym tested ∙ c.if-broken.true))

pub loop-j-preserved : goal.loop-j-preserved
loop-j-preserved c =
    let a = c.args in
    let tested = rw c.slot_at-x.ensures at c.is_broken-broken.ensures in
    record {
      written = slot-written a.table.now a.number c.loop-j.j c.loop-j.invariant.written (rw c.slot_at-x.ensures at c.write_slot.ensures);
      formed = below_next {p = broken_at a.table.now a.versions a.number} c.loop-j.invariant.formed (sym tested ∙ c.if-broken.false);
    }

pub returns : goal.returns
returns c =
    let a = c.args in
    let all : c.loop-j.j ≡ block_slots = omega arith in
    unless-done
    (none-broken a.table.now a.versions a.number (λ i h. c.loop-j.invariant.formed i (omega arith)))
    (ap Ok (slots_whole a.table.now a.number c.loop-j.j c.loop-j.invariant.written all c.finish.ensures))
