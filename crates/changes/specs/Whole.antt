-- A whole table: its shape is not refused, and every slot is well formed. A change writes one slot of it, no other slot has the
-- key, and it stays whole: shown once for every change, over its effect. Assumes nothing.
use Rattle.std.specs.Prelude.{◌≡◌, true, false, List, ℕ, ◌<◌, ℤ, Option}
use Rattle.std.proofs.Common.{◌∙◌}
use Rattle.laws.specs.TestLaws.{by_test, by_place}
use Rattle.versions.specs.declared.VersionRecord.{VersionRecord}
use Rattle.table.specs.declared.Slot.{Slot}
use Rattle.table.specs.Slots.{bad_table, slots, slot_at, put_slot}
use Rattle.table.specs.SlotLaws.{put_same, put_other, put_sound}
use Rattle.table_forms.specs.Formed.{well_formed}
use Rattle.table_keys.specs.Keys.{has_key}
use Rattle.reads.specs.declared.Row.{Row}
use Rattle.changes.specs.Effects.{Effect}

-- no key has two slots
abbrev pub KeysApart : List ℤ → Type 0
KeysApart t = (i j : ℕ) (key1 key2 : ℤ) → has_key (slot_at t i) key1 key2 ≡ true → has_key (slot_at t j) key1 key2 ≡ true → i ≡ j

pub record Whole (t : List ℤ) (v : VersionRecord) : Type 0 where
  pub shape : bad_table t ≡ false
  pub formed : (k : ℕ) → well_formed (slot_at t k) v ≡ true

-- what an accepted change of a key leaves: slot k is written, to the effect that the change says, and no other slot has the key
pub record Wrote (t : List ℤ) (v : VersionRecord) (key1 key2 : ℤ) (after : Option Row) (k : ℕ) (t' : List ℤ) : Type 0 where
  pub slot : Slot
  pub place : k < slots t
  pub words : t' ≡ put_slot t k slot
  pub alone : (j : ℕ) → (j ≡ k → ⊥) → has_key (slot_at t j) key1 key2 ≡ false
  pub effect : Effect v (slot_at t k) slot key1 key2 after

-- where no key has two slots, a key's slot is the only one that has it
pub only_slot : (t : List ℤ) → KeysApart t → (k : ℕ) (key1 key2 : ℤ) → has_key (slot_at t k) key1 key2 ≡ true
    → (j : ℕ) → (j ≡ k → ⊥) → has_key (slot_at t j) key1 key2 ≡ false
only_slot t d k key1 key2 h j ne = by_test (has_key (slot_at t j) key1 key2) (λ y. absurd (ne (d j k key1 key2 y h))) (λ n. n)

module _ (t : List ℤ) (v : VersionRecord) (key1 key2 : ℤ) (after : Option Row) (k : ℕ) (t' : List ℤ) (whole : Whole t v) (w : Wrote t v key1 key2 after k t') where
  pub written-slot : slot_at t' k ≡ w.slot
  written-slot = rw w.words (put_same t k w.slot whole.shape w.place)

  pub other_slot : (j : ℕ) → (j ≡ k → ⊥) → slot_at t' j ≡ slot_at t j
  other_slot j ne = rw w.words (put_other t k j w.slot ne)

  formed_after : (j : ℕ) → well_formed (slot_at t' j) v ≡ true
  formed_after j =
      by_place j k (λ e. rw (e, written-slot) w.effect.formed) (λ ne. rw (other_slot j ne) (whole.formed j))

  -- the table is whole after it
  pub whole_after : Whole t' v
  whole_after = record {
    shape = rw w.words (put_sound t k w.slot ∙ whole.shape);
    formed = formed_after;
  }
