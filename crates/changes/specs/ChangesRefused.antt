-- When a change of a whole table is refused during a run, and by which refusal: the tests of the shape, the record, the run and
-- the key's slot have failed, and what is left of each list are the tests of the totals, the key and the room. And what refusal
-- 12 says: the key has no slot, and every slot shows a row at one of the run's two versions. Assumes nothing.
use Rattle.std.specs.Prelude.{◌≡◌, refl, Bool, true, false, not, ◌⊎◌, List, [], ◌∷◌, ◌++◌, ℕ, ◌<◌, ◌≤◌, ltb, ℤ, Some}
use Rattle.std.proofs.Common.{sym, ap, ◌∙◌, inl, inr, ltb-true, ltb-false, le-ltb, lt_of_lt_of_le}
use Rattle.refusals.specs.declared.Refusal.{Refusal}
use Rattle.refusals.specs.declared.Refusal.TheVariants as refusal
use Rattle.laws.specs.TestLaws.{by_test, clash, not_yes}
use Rattle.laws.specs.FirstLaws.{skip, hit, under}
use Rattle.laws.specs.First.{first}
use Rattle.laws.specs.OrderLaws.{next-lt_z}
use Rattle.versions.specs.declared.VersionRecord.{VersionRecord}
use Rattle.versions.specs.Record.{bad_record, run_number}
use Rattle.versions.specs.RecordLaws.{sound}
use Rattle.table.specs.declared.Slot.{Slot}
use Rattle.table.specs.Slots.{bad_table, slots, slot_at}
use Rattle.table_forms.specs.Operations.{live}
use Rattle.table_forms.specs.Totals.{unlawful}
use Rattle.table_forms.specs.Formed.{well_formed, broken}
use Rattle.table_forms.specs.FormedLaws.{dead_deleted}
use Rattle.table_keys.specs.Keys.{key_slot, keyed}
use Rattle.table_free.specs.Free.{free, free_slot}
use Rattle.table_free.specs.FreeLaws.{free_slot_is, busy}
use Rattle.reads.specs.Table1.{shown, current_row, old_row}
use Rattle.reads.specs.Table1Laws.{shown-current, shown-removed}
use Rattle.changes.specs.Effects.{run_within}
use Rattle.changes.specs.Whole.{Whole}
use Rattle.changes.specs.ChangeTests.{running_tests}
use Rattle.changes_rows.specs.PutRow.{slot_to_take, no_slot}
use Rattle.changes_rows.specs.DeleteRow.{not_live}
use Rattle.changes.specs.Put.{put_refusal}
use Rattle.changes.specs.Delete.{delete_refusal}

module _ (t : List ℤ) (v : VersionRecord) (whole : Whole t v) (known : bad_record v ≡ false) (active : v.active ≡ true) where
  -- 1, 2 and 8 are not given, nor is 6
  past8 : (l : List (Bool × Refusal)) → first (running_tests t v ++ l) ≡ first l
  past8 l = skip refusal.BadTable _ whole.shape ∙ skip refusal.BadRecord _ known ∙ skip refusal.NoRun _ (ap not active)

  past6 : (key1 key2 : ℤ) (l : List (Bool × Refusal)) → first ((broken (keyed t key1 key2) v, refusal.BrokenSlot) ∷ l) ≡ first l
  past6 key1 key2 l = skip refusal.BrokenSlot l (ap not (whole.formed (key_slot t key1 key2)))

  pub put_refused : (key1 key2 total1 total2 : ℤ)
      → put_refusal t v key1 key2 total1 total2 ≡ first ((unlawful total1 total2, refusal.BadTotal) ∷ (no_slot t v key1 key2, refusal.TableFull) ∷ [])
  unfolding put_refusal
  put_refused key1 key2 total1 total2 = past8 _ ∙ under _ _ _ (past6 key1 key2 _)

  pub delete_refused : (key1 key2 : ℤ) → delete_refusal t v key1 key2 ≡ first ((not_live t key1 key2, refusal.KeyNotLive) ∷ [])
  unfolding delete_refusal
  delete_refused key1 key2 = past8 _ ∙ past6 key1 key2 _

  -- ---- no slot to take: the key has none, and none is free
  pub record NoSlotLeft (key1 key2 : ℤ) : Type 0 where
    pub absent : slots t ≤ key_slot t key1 key2
    pub taken : (j : ℕ) → j < slots t → free (slot_at t j) v ≡ false

  pub full : (key1 key2 : ℤ) → no_slot t v key1 key2 ≡ true → NoSlotLeft key1 key2
  full key1 key2 h =
      let none : ltb (slot_to_take t v key1 key2) (slots t) ≡ false = not_yes h in
      by_test (ltb (key_slot t key1 key2) (slots t))
      (λ y. clash h (rw (y, y) refl))
      (λ n. record {
        absent = ltb-false _ _ n;
        taken = λ j l. (free_slot_is t v).below j (lt_of_lt_of_le l (ltb-false _ _ (rw n at none)));
      })

  pub not_full : (key1 key2 : ℤ) → NoSlotLeft key1 key2 → no_slot t v key1 key2 ≡ true
  not_full key1 key2 f =
      rw (le-ltb (key_slot t key1 key2) (slots t) f.absent)
      (by_test (ltb (free_slot t v) (slots t))
      (λ y. clash ((free_slot_is t v).passes (ltb-true _ _ y)) (f.taken _ (ltb-true _ _ y)))
      (λ n. ap not n))

  -- ---- a slot that is not free shows a row: its own at the running version, or its old one at current
  pub busy_seen : (x : Slot) → well_formed x v ≡ true → free x v ≡ false
      → (shown (run_number v) x ≡ Some (current_row x)) ⊎ (shown v.current x ≡ Some (old_row x))
  busy_seen x w f =
      let b = busy x v w f in
      by_test (live x)
      (λ y. inl (shown-current (run_number v) x (run_within v known active b.used) y))
      (λ n. let d = dead_deleted x v b.used n in
      inr (shown-removed v.current x (sym (next-lt_z x.run v.current (sound known).low) ∙ b.not_older d) d))

-- ---- with no run active every change is refused 8
module _ (t : List ℤ) (v : VersionRecord) (shape : bad_table t ≡ false) (known : bad_record v ≡ false) (no_run : v.active ≡ false) where
  given8 : (l : List (Bool × Refusal)) → first (running_tests t v ++ l) ≡ Some refusal.NoRun
  given8 l = skip refusal.BadTable _ shape ∙ skip refusal.BadRecord _ known ∙ hit _ (ap not no_run)

  pub put_idle : (key1 key2 total1 total2 : ℤ) → put_refusal t v key1 key2 total1 total2 ≡ Some refusal.NoRun
  unfolding put_refusal
  put_idle key1 key2 total1 total2 = given8 _

  pub delete_idle : (key1 key2 : ℤ) → delete_refusal t v key1 key2 ≡ Some refusal.NoRun
  unfolding delete_refusal
  delete_idle key1 key2 = given8 _
