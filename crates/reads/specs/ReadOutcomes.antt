-- What comes of a read of a table and a record that are not refused, by a session that is born: it is refused as expired, or
-- answers what Table 1 gives. Assumes nothing.
use Rattle.std.specs.Prelude.{◌≡◌, Bool, true, false, List, ◌∷◌, ◌++◌, ℕ, ◌≤◌, ◌<◌, ℤ, Some, Ok, Err}
use Rattle.std.proofs.Common.{ap, ◌∙◌, lt-ltb, le-ltb}
use Rattle.std.proofs.Math.Bool.{not}
use Rattle.refusals.specs.declared.Refusal.{Refusal}
use Rattle.refusals.specs.declared.Refusal.TheVariants as refusal
use Rattle.laws.specs.FirstLaws.{skip, hit, done}
use Rattle.laws.specs.First.{first}
use Rattle.versions.specs.declared.VersionRecord.{VersionRecord}
use Rattle.versions.specs.Record.{bad_record}
use Rattle.versions.specs.Sessions.{unborn, expired}
use Rattle.table.specs.Slots.{bad_table, slots, slot_at}
use Rattle.table_forms.specs.Formed.{well_formed}
use Rattle.table_keys.specs.Keys.{keyed}
use Rattle.reads.specs.Table1.{shown}
use Rattle.reads.specs.SessionTests.{session_tests}
use Rattle.reads.specs.ReadSlot.{read_slot_refusal, read_slot_answer}
use Rattle.reads.specs.ReadKey.{read_key_refusal, read_key_answer}

module _ (t : List ℤ) (v : VersionRecord) (s : ℤ) (shape : bad_table t ≡ false) (known : bad_record v ≡ false) (born : unborn v s ≡ false) where
  -- 1, 2 and 3 are not given
  past3 : (l : List (Bool × Refusal)) → first ((bad_table t, refusal.BadTable) ∷ (bad_record v, refusal.BadRecord) ∷ (unborn v s, refusal.NoSuchVersion) ∷ l) ≡ first l
  past3 l = skip _ _ shape ∙ skip _ _ known ∙ skip _ _ born

  -- ---- once the session is expired, every read's refusal is 4
  pub is4 : expired v s ≡ true → (l : List (Bool × Refusal)) → first (session_tests t v s ++ l) ≡ Some refusal.Expired
  is4 x l = past3 _ ∙ hit _ x

  pub key_expired : (key1 key2 : ℤ) → expired v s ≡ true → read_key_answer t v s key1 key2 ≡ Err refusal.Expired
  unfolding read_key_answer read_key_refusal
  key_expired key1 key2 x = rw (is4 x)

  pub slot-expired : (k : ℕ) → expired v s ≡ true → read_slot_answer t v s k ≡ Err refusal.Expired
  unfolding read_slot_answer read_slot_refusal
  slot-expired k x = rw (is4 x)

  -- ---- while it is open
  module _ (kept : expired v s ≡ false) where
    pub past4 : (l : List (Bool × Refusal)) → first (session_tests t v s ++ l) ≡ first l
    past4 l = past3 _ ∙ skip _ _ kept

    pub key_shown : (key1 key2 : ℤ) → well_formed (keyed t key1 key2) v ≡ true → read_key_answer t v s key1 key2 ≡ Ok (shown s (keyed t key1 key2))
    unfolding read_key_answer read_key_refusal
    key_shown key1 key2 w = rw (past4 _ ∙ skip refusal.BrokenSlot _ (ap not w) ∙ done)

    pub slot-past : (k : ℕ) → slots t ≤ k → read_slot_answer t v s k ≡ Err refusal.NoSuchPlace
    unfolding read_slot_answer read_slot_refusal
    slot-past k l = rw (past4, hit {e = refusal.NoSuchPlace} _ (ap not (le-ltb k (slots t) l)))

    pub slot-shown : (k : ℕ) → k < slots t → well_formed (slot_at t k) v ≡ true → read_slot_answer t v s k ≡ Ok (shown s (slot_at t k))
    unfolding read_slot_answer read_slot_refusal
    slot-shown k l w = rw (past4 _ ∙ skip refusal.NoSuchPlace _ (ap not (lt-ltb k (slots t) l)) ∙ skip refusal.BrokenSlot _ (ap not w) ∙ done)
