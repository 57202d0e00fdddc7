-- `blocks_saves::save_slots`: the invariant is that the words so far are the number and the slots passed, none broken. Assumes nothing.
use Rattle.std.proofs.Common.{◌≡◌, false, ℕ, ◌+◌, ◌<◌}
use Rattle.table.specs.Slots.{slot_at}
use Rattle.table_forms.specs.Formed.{broken}
use Rattle.blocks_words.specs.Follows.{FollowedBy}
use Rattle.blocks_loads.specs.LoadedSlots.{first_slot}
use Rattle.blocks_saves.specs.SlotBlockLaws.{numbered}
use Rattle.blocks_saves.proofs.save_slots.Given as goal

abbrev pub invariant-loop-j : goal.invariant-loop-j
invariant-loop-j l = record {
  written : FollowedBy (numbered l.table l.number l.j) l.draft;
  formed : (i : ℕ) → i < l.j → broken (slot_at l.table (first_slot l.number + i)) l.versions ≡ false;
}
