-- What was saved is loaded again. Of a save that is not refused: a load of its header answers the slots, the current version and the
-- oldest open one, which with no run active are the record; a load of its block writes the table's own slots and no other; and a load
-- of every block of a table, into any table of its length, gives that table. The calls' tests fail one by one, by the laws of their
-- words and slots. Assumes nothing.
use Rattle.std.specs.Prelude.{◌≡◌, false, List, ℕ, zero, suc, ◌+◌, ◌*◌, ◌-◌, ◌≤◌, ◌<◌, ltb, ℤ, length, None, Ok}
use Rattle.std.proofs.Math.Path.{sym}
use Rattle.std.proofs.Common.{ap, ◌∙◌}
use native.Mathlib.Omega.{arith}
use borrow.Author.Tests.{ltb-false}
use Rattle.refusals.specs.declared.Refusal.TheVariants as refusal
use Rattle.laws.specs.TestLaws.{by_test, by_order}
use Rattle.laws.specs.FirstLaws.{none}
use Rattle.versions.specs.declared.VersionRecord.{VersionRecord}
use Rattle.table.specs.Slots.{bad_table, slots, slot_at}
use Rattle.table.specs.SlotLaws.{slot_at-past, same_length, by_slots}
use Rattle.table_forms.specs.FormedLaws.{empty-zeros}
use Rattle.blocks_words.specs.Words.{block_of}
use Rattle.blocks_words.specs.WordLaws.{block_length, check_right}
use Rattle.blocks_words.specs.Longs.{block_slots}
use Rattle.blocks_headers.specs.HeaderFieldLaws.{header_words_lem, header_right}
use Rattle.blocks_loads.specs.LoadedSlots.{blocks, first_slot, slot_wrong, slot_block_wrong, loaded_to}
use Rattle.blocks_loads.specs.AllowedLaws.{slots_allowed}
use Rattle.blocks_loads.specs.LoadedLaws.{loaded_length, loaded_other, loaded_same}
use Rattle.blocks.specs.declared.Header.{Header}
use Rattle.blocks.specs.HeaderLaws.{header_lawful, header_block, header_read}
use Rattle.blocks.proofs.EndLaws.{bytes_pass, end_passes, load_block_end}
use Rattle.blocks_saves.specs.SlotBlocks.{slot_block_words}
use Rattle.blocks_saves.specs.SlotBlockLaws.{block_formed}
use Rattle.blocks_saves.specs.SlotsBack.{Fitting, slot-words, number-back, filler_back, slot-back}
use Rattle.blocks.specs.SavedBlockLaws.{front, table-sound, slots-saved, number_fits}
use Rattle.blocks.specs.SaveHeader.{save_header_refusal, save_header_block}
use Rattle.blocks.specs.SaveBlock.{save_block_refusal, save_block_block}
use Rattle.blocks.specs.LoadHeader.{load_header_refusal, load_header_answer}
use Rattle.blocks.specs.LoadBlock.{load_block_refusal, load_block_answer, load_block_words}

-- ---- the header
module _ (t : List ℤ) (v : VersionRecord) (allowed : save_header_refusal t v ≡ None) where
  -- a load of it is not refused
  pub header_loads : load_header_refusal (save_header_block t v) ≡ None
  unfolding load_header_refusal
  header_loads =
      let lawful = header_lawful t v allowed in
      let made = header_words_lem _ _ _ lawful in
      rw (header_block t v allowed) (end_passes _ _ (bytes_pass _ (block_length _ made) (check_right _ made)) (header_right _ _ _ lawful))

  -- and answers the slots of the table, the current version and the oldest open one
  pub header_back : load_header_answer (save_header_block t v) ≡ Ok (record { slots = slots t; current = v.current; oldest = v.oldest })
  unfolding load_header_answer
  header_back = rw header_loads (ap Ok (header_read t v allowed))

  -- so the record of what it answers, with no run active, is the one that was saved
  pub record_back : {h : Header} → load_header_answer (save_header_block t v) ≡ Ok h → record { current = h.current; active = false; oldest = h.oldest } ≡ v
  unfolding save_header_refusal
  record_back {h} answered =
      let same : Ok h ≡ Ok (record { slots = slots t; current = v.current; oldest = v.oldest }) = sym answered ∙ header_back in
      let header : h ≡ record { slots = slots t; current = v.current; oldest = v.oldest } = cc in
      rw (header, ← none _ allowed refusal.RunActive)

-- ---- a block
-- one table has the slots of another from a place on, so many of them, and its own elsewhere
pub record Restored (t u loaded : List ℤ) (from count : ℕ) : Type 0 where
  pub whole : length loaded ≡ length u
  pub inside : (j : ℕ) → from ≤ j → j < from + count → slot_at loaded j ≡ slot_at t j
  pub outside : (j : ℕ) → ((from ≤ j) × (j < from + count) → ⊥) → slot_at loaded j ≡ slot_at u j

-- tables of one length are both empty beyond it
beyond : (t u : List ℤ) → length u ≡ length t → bad_table t ≡ false → (j : ℕ) → slots t ≤ j → slot_at u j ≡ slot_at t j
beyond t u same sound j h = slot_at-past u j (same_length t u same ∙ sound) (rw same h) ∙ sym (slot_at-past t j sound h)

module _ (t u : List ℤ) (v : VersionRecord) (k : ℕ) (fitting : Fitting t) (same : length u ≡ length t) (allowed : save_block_refusal t v k ≡ None) where
  -- each slot of the block is one that a load takes: well formed in the table, and zero beyond it
  slot_right : (j : ℕ) → j < block_slots → slot_wrong u v k (block_of (slot_block_words t k)) j ≡ false
  unfolding save_block_refusal
  slot_right j a =
      by_test (ltb (first_slot k + j) (slots u))
      (λ y. rw (y, slot-back t k (number_fits t v k allowed) fitting j a) (block_formed t v k (none _ allowed refusal.BrokenSlot) j a))
      (λ m. let past : slots t ≤ first_slot k + j = omega (arith, ltb-false (first_slot k + j) (slots u) m) in
      rw (m, slot-back t k (number_fits t v k allowed) fitting j a, slot_at-past t (first_slot k + j) (table-sound t v k allowed) past, empty-zeros))

  -- so its words are not wrong
  slots_right : slot_block_wrong u v k (block_of (slot_block_words t k)) ≡ false
  slots_right = let fits = number_fits t v k allowed in slots_allowed u v k _ (number-back t k fits) (filler_back t k fits) slot_right

  -- a load of it is not refused
  pub block_loads : load_block_refusal u v k (save_block_block t v k) ≡ None
  block_loads =
      let made = slot-words t k (number_fits t v k allowed) in
      rw (slots-saved t v k allowed)
      (load_block_end u v k _ (rw (same_length t u same, same) (front t v k allowed)) ∙ end_passes _ _ (bytes_pass _ (block_length _ made) (check_right _ made)) slots_right)

  -- and is done
  pub block_done : load_block_answer u v k (save_block_block t v k) ≡ Ok tt
  unfolding load_block_answer
  block_done = rw block_loads

  slot_same : (i : ℕ) → i < block_slots → slot_at (loaded_to u k (block_of (slot_block_words t k)) block_slots) (first_slot k + i) ≡ slot_at t (first_slot k + i)
  slot_same i a =
      let block = block_of (slot_block_words t k) in
      by_order (first_slot k + i) (slots u)
      (λ l. loaded_same u k block (same_length t u same ∙ table-sound t v k allowed) block_slots i a l ∙ slot-back t k (number_fits t v k allowed) fitting i a)
      (λ g. beyond t _ (loaded_length u k block block_slots ∙ same) (table-sound t v k allowed) (first_slot k + i) (omega arith))

  -- it writes the slots of the block as they were saved, and no other
  pub block_back : Restored t u (load_block_words u v k (save_block_block t v k)) (first_slot k) block_slots
  unfolding load_block_words
  block_back = rw (block_loads, slots-saved t v k allowed) (record {
    whole = loaded_length u k (block_of (slot_block_words t k)) block_slots;
    inside = λ j l h. let e : first_slot k + (j - first_slot k) ≡ j = omega arith in rw e at (slot_same (j - first_slot k) (omega arith));
    outside = λ j out. loaded_other u k (block_of (slot_block_words t k)) block_slots j (λ i a e. out (omega arith, omega arith));
  })

-- ---- every block
-- the first n blocks of one table loaded into another
abbrev pub load_all : List ℤ → VersionRecord → List ℤ → ℕ → List ℤ
load_all t v u zero = u
load_all t v u (suc n) = load_block_words (load_all t v u n) v (suc n) (save_block_block t v (suc n))

module _ (t u : List ℤ) (v : VersionRecord) (fitting : Fitting t) (sound : bad_table t ≡ false) (same : length u ≡ length t)
    (allowed : (k : ℕ) → 1 ≤ k → k ≤ blocks t → save_block_refusal t v k ≡ None) where
  -- one more block, into a table of that length
  next : (n : ℕ) → n < blocks t → length (load_all t v u n) ≡ length t
      → Restored t (load_all t v u n) (load_all t v u (suc n)) (first_slot (suc n)) block_slots
  next n h whole = block_back t (load_all t v u n) v (suc n) fitting whole (allowed (suc n) (omega arith) h)

  all-length : (n : ℕ) → n ≤ blocks t → length (load_all t v u n) ≡ length t
  all-length zero h = same
  all-length (suc n) h = let before = all-length n (omega arith) in (next n h before).whole ∙ before

  -- the slots of the blocks so far are the table's
  all_slots : (n : ℕ) → n ≤ blocks t → (j : ℕ) → j < n * block_slots → slot_at (load_all t v u n) j ≡ slot_at t j
  all_slots zero h j l = absurd (omega arith)
  all_slots (suc n) h j l =
      let step = next n h (all-length n (omega arith)) in
      by_order j (n * block_slots)
      (λ b. step.outside j (omega arith) ∙ all_slots n (omega arith) j b)
      (λ g. step.inside j (omega arith) (omega arith))

  -- so the whole table is back
  pub all_back : load_all t v u (blocks t) ≡ t
  all_back =
      let whole = all-length (blocks t) (omega arith) in
      by_slots _ t whole
      (λ j. by_order j (slots t) (λ l. all_slots (blocks t) (omega arith) j (omega arith)) (beyond t _ whole sound j))
