-- What each cell of Tables 2 to 4 makes of a slot during a run: at the current version the slot shows what it showed; at the
-- running one it shows what the change says; it is well formed; and it is empty or has the key. One lemma a cell, by the laws
-- of Table 1 before and after. Assumes nothing.
use Rattle.std.specs.Prelude.{◌≡◌, refl, true, false, ◌⊎◌, ℤ, pos, Option, Some, None}
use Rattle.std.proofs.Common.{sym, ap₂, ◌∙◌, inl, inr}
use Rattle.std.specs.Int.Signed.{le_z}
use Rattle.laws.specs.OrderLaws.{le_z_refl, next-le_z, next_low, from_to_lem}
use Rattle.laws.specs.Order.{from_to}
use Rattle.versions.specs.declared.VersionRecord.{VersionRecord}
use Rattle.versions.specs.Record.{bad_record, run_number, last_run}
use Rattle.versions.specs.RecordLaws.{sound}
use Rattle.table.specs.declared.Slot.{Slot}
use Rattle.table.specs.Slots.{empty}
use Rattle.table_forms.specs.Operations.{insert_operation, update_operation, delete_operation, live}
use Rattle.table_forms.specs.OperationLaws.{live-cases, live_insert, live_update, live_same}
use Rattle.table_forms.specs.TotalLaws.{lawful-zero}
use Rattle.table_forms.specs.Totals.{Given}
use Rattle.table_forms.specs.Formed.{well_formed}
use Rattle.table_forms.specs.FormedLaws.{Used, used_formed, empty_formed}
use Rattle.table_keys.specs.KeyLaws.{Keyed}
use Rattle.reads.specs.declared.Row.{Row}
use Rattle.reads.specs.Table1.{shown}
use Rattle.reads.specs.Table1Laws.{shown-current, shown-deleted, shown_updated, shown-removed, shown_inserted, shown-empty}
use Rattle.changes_cells.specs.Tables.{new_insert, restored, saved, corrected, removed, marked}

-- no row, or one with that key
abbrev pub Own : ℤ → ℤ → Option Row → Type 0
Own key1 key2 (Some row) = (row.key1 ≡ key1) × (row.key2 ≡ key2)
Own key1 key2 None = Unit {0}

-- the row of a key with its totals
abbrev pub row : ℤ → ℤ → ℤ → ℤ → Row
row key1 key2 total1 total2 = record { key1 = key1; key2 = key2; total1 = total1; total2 = total2 }

-- a change of the key makes y of x
pub record Effect (v : VersionRecord) (x y : Slot) (key1 key2 : ℤ) (after : Option Row) : Type 0 where
  pub low : shown v.current y ≡ shown v.current x
  pub before : Own key1 key2 (shown (run_number v) x)
  pub high : shown (run_number v) y ≡ after
  pub formed : well_formed y v ≡ true
  pub key : (y ≡ empty) ⊎ Keyed y key1 key2

module _ (v : VersionRecord) (known : bad_record v ≡ false) (active : v.active ≡ true) where
  -- the running number is above current, at least 1, and the last that a slot may have
  above : le_z (run_number v) v.current ≡ false
  above = next-le_z v.current (sound known).low

  runs : from_to (pos 1) (last_run v) (run_number v) ≡ true
  runs = rw (active, next_low v.current (sound known).low) (le_z_refl (run_number v))

  -- a used slot's run is at most the running one
  pub run_within : {x : Slot} → Used x v → le_z x.run (run_number v) ≡ true
  run_within {x} u = rw active at (from_to_lem (pos 1) (last_run v) x.run u.run).high

  -- a row of the key, and no row, are its own
  own_row : (x : Slot) {key1 key2 total1 total2 : ℤ} → Keyed x key1 key2 → {s : Option Row} → s ≡ Some (row x.key1 x.key2 total1 total2) → Own key1 key2 s
  own_row x k e = rw e (k.key1, k.key2)

  own_none : (key1 key2 : ℤ) {s : Option Row} → s ≡ None → Own key1 key2 s
  own_none key1 key2 e = rw e tt

  -- a row under the key that the slot has
  keyed-row : (x : Slot) {key1 key2 : ℤ} (total1 total2 : ℤ) → Keyed x key1 key2 → Some (row x.key1 x.key2 total1 total2) ≡ Some (row key1 key2 total1 total2)
  keyed-row x total1 total2 k = ap₂ (λ p q. Some (row p q total1 total2)) k.key1 k.key2

  module _ (x : Slot) (key1 key2 : ℤ) (u : Used x v) (k : Keyed x key1 key2) where
    -- where it is live, it shows a row of its own at the running version
    own_live : live x ≡ true → Own key1 key2 (shown (run_number v) x)
    own_live l = own_row x k (shown-current (run_number v) x (run_within u) l)

    -- ---- a put of a live key
    module _ (total1 total2 : ℤ) (g : Given total1 total2) (l : live x ≡ true) where
      pub save_effect : le_z x.run v.current ≡ true → Effect v x (saved (run_number v) x total1 total2) key1 key2 (Some (row key1 key2 total1 total2))
      save_effect h =
          let y = saved (run_number v) x total1 total2 in
          record {
            low = shown_updated v.current y above refl ∙ sym (shown-current v.current x h l);
            before = own_live l;
            high = shown-current (run_number v) y (le_z_refl (run_number v)) (live_update y refl) ∙ keyed-row x total1 total2 k;
            formed = used_formed (search runs);
            key = inr (search);
          }

      pub correct_effect : le_z x.run v.current ≡ false → Effect v x (corrected x total1 total2) key1 key2 (Some (row key1 key2 total1 total2))
      correct_effect h =
          let y = corrected x total1 total2 in
          record {
            low = live-cases x l
                (λ e. shown_inserted v.current y h e ∙ sym (shown_inserted v.current x h e))
                (λ e. shown_updated v.current y h e ∙ sym (shown_updated v.current x h e));
            before = own_live l;
            high = shown-current (run_number v) y (run_within u) (live_same y x refl ∙ l) ∙ keyed-row x total1 total2 k;
            formed = used_formed (search);
            key = inr (search);
          }

    -- ---- delete
    pub remove_effect : le_z x.run v.current ≡ true → live x ≡ true → Effect v x (removed (run_number v) x) key1 key2 None
    remove_effect h l =
        let y = removed (run_number v) x in
        record {
          low = shown-removed v.current y above refl ∙ sym (shown-current v.current x h l);
          before = own_live l;
          high = shown-deleted (run_number v) y (le_z_refl (run_number v)) refl;
          formed = used_formed (search runs);
          key = inr (search);
        }

    pub erase_effect : le_z x.run v.current ≡ false → x.operation ≡ insert_operation → Effect v x empty key1 key2 None
    erase_effect h e = record {
      low = shown-empty v.current ∙ sym (shown_inserted v.current x h e);
      before = own_live (live_insert x e);
      high = shown-empty (run_number v);
      formed = empty_formed v;
      key = inl refl;
    }

    pub mark_effect : le_z x.run v.current ≡ false → x.operation ≡ update_operation → Effect v x (marked x) key1 key2 None
    mark_effect h e =
        let y = marked x in
        record {
          low = shown-removed v.current y h refl ∙ sym (shown_updated v.current x h e);
          before = own_live (live_update x e);
          high = shown-deleted (run_number v) y (run_within u) refl;
          formed = used_formed (search);
          key = inr (search);
        }

    -- ---- a put where this run deleted the row
    pub restore_effect : (total1 total2 : ℤ) → Given total1 total2 → le_z x.run v.current ≡ false → x.operation ≡ delete_operation
        → Effect v x (restored x total1 total2) key1 key2 (Some (row key1 key2 total1 total2))
    restore_effect total1 total2 g h e =
        let y = restored x total1 total2 in
        record {
          low = shown_updated v.current y h refl ∙ sym (shown-removed v.current x h e);
          before = own_none key1 key2 (shown-deleted (run_number v) x (run_within u) e);
          high = shown-current (run_number v) y (run_within u) (live_update y refl) ∙ keyed-row x total1 total2 k;
          formed = used_formed (search);
          key = inr (search);
        }

  -- ---- a put where neither version shows the slot
  pub insert_effect : (x : Slot) (key1 key2 total1 total2 : ℤ) → Given total1 total2 → shown v.current x ≡ None → shown (run_number v) x ≡ None
      → Effect v x (new_insert (run_number v) key1 key2 total1 total2) key1 key2 (Some (row key1 key2 total1 total2))
  insert_effect x key1 key2 total1 total2 g low high =
      let y = new_insert (run_number v) key1 key2 total1 total2 in
      record {
        low = shown_inserted v.current y above refl ∙ sym low;
        before = own_none key1 key2 high;
        high = shown-current (run_number v) y (le_z_refl (run_number v)) (live_insert y refl);
        formed = used_formed (search (runs, lawful-zero));
        key = inr (search);
      }
