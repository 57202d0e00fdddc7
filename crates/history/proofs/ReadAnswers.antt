-- What reads of the table of two versions answer where all is well: refused by 4 exactly when the version is gone, and else what
-- the view shows, since the shape and the record are sound, the session is born, and no slot is broken. Assumes nothing.
use Rattle.std.specs.Prelude.{◌≡◌, refl, false, List, ◌∷◌, map, ℕ, zero, suc, ℤ, pos}
use Rattle.std.proofs.Common.{ap, ◌∙◌}
use Rattle.table.specs.Slots.{bad_table, slot_at}
use Rattle.table_forms.specs.FormedLaws.{all_formed}
use Rattle.table_keys.specs.Keys.{key_slot}
use Rattle.reads.specs.Table1.{shown}
use Rattle.reads_roll_up.specs.RollUp
use Rattle.reads_roll_up.specs.RollUpOutcomes.{roll_up_expired, roll_up_summed}
use Rattle.reads.specs.ReadOutcomes.{key_expired, key_shown, slot-expired, slot-past, slot-shown}
use Rattle.calls.specs.Calls as answer
use Rattle.history.specs.Databases.{up_to}
use Rattle.history.proofs.Recorded.{Recorded, is_born, is_gone, is_kept}
use Rattle.history.proofs.Table.{view_of}
use Rattle.history.proofs.Argument.{Reads}
use Rattle.history.proofs.Steps.{TableWorld, world_view, Well}

-- what a session sees of the first slots is what the view shows of them
seen-shown : (t : List ℤ) (s m : ℕ) → RollUp.seen t (pos s) m ≡ map ((view_of t).shown s) (up_to m)
seen-shown t s zero = refl
seen-shown t s (suc m) = ap (λ l. shown (pos s) (slot_at t m) ∷ l) (seen-shown t s m)

module _ (m : ℕ) (w : TableWorld) (i : Well m w) where
  shape : bad_table w.state.words ≡ false
  shape = i.sound.whole.shape

  recorded : Recorded w.state.versions w.told
  recorded = i.sound.recorded

  pub reads : Reads (world_view w) (key_slot w.state.words) m w
  reads = record {
    key_gone = λ c h key1 key2. ap answer.seen (key_expired _ _ _ shape recorded.known (is_born recorded c) key1 key2 (is_gone recorded c h));
    key_shown = λ c still key1 key2. ap answer.seen
        (key_shown _ _ _ shape recorded.known (is_born recorded c) (is_kept recorded c still) key1 key2 (i.sound.whole.formed _));
    sums_gone = λ c h key1. ap answer.rolled (roll_up_expired _ _ _ shape recorded.known (is_born recorded c) key1 (is_gone recorded c h));
    sums-shown = λ {s} c still key1. ap answer.rolled
        (roll_up_summed _ _ _ shape recorded.known (is_born recorded c) (is_kept recorded c still) key1 (all_formed _ _ i.sound.whole.formed)
        ∙ rw (i.sound.size, seen-shown w.state.words s m));
    slot_gone = λ c h k. ap answer.seen (slot-expired _ _ _ shape recorded.known (is_born recorded c) k (is_gone recorded c h));
    slot-past = λ c still k l. ap answer.seen (slot-past _ _ _ shape recorded.known (is_born recorded c) (is_kept recorded c still) k (rw i.sound.size l));
    slot-shown = λ c still k l. ap answer.seen
        (slot-shown _ _ _ shape recorded.known (is_born recorded c) (is_kept recorded c still) k (rw i.sound.size l) (i.sound.whole.formed k));
  }
