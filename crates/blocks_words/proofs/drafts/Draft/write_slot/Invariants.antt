-- `blocks_words::drafts::Draft::write_slot`: the invariant is that the halves of the words passed are written. Assumes nothing.
use Rattle.std.proofs.Common.{◌+◌, ◌*◌, take}
use Rattle.blocks_words.specs.Follows.{Follow}
use Rattle.blocks_words.specs.Longs.{slot_halves, first_slot_place, halves_of}
use Rattle.blocks_words.proofs.drafts.Draft.write_slot.Given as goal

abbrev pub invariant-loop-n : goal.invariant-loop-n
invariant-loop-n l = Follow (l.j * slot_halves + first_slot_place) l.initial.self (halves_of (take l.n l.word-items)) l.self
