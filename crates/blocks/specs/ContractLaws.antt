-- How each contract is shown: by a refusal that is given, or by what is done where nothing is refused. Assumes nothing.
use Rattle.std.specs.Prelude.{◌≡◌, refl, List, ℕ, ℤ, Option, Some, None, Result, Ok, Err}
use Rattle.refusals.specs.declared.Refusal.{Refusal}
use Rattle.laws.specs.First.{unless, kept_or}
use Rattle.laws.specs.FirstLaws.{unless_refused, unless-done, kept_refused, kept-done}
use Rattle.versions.specs.declared.VersionRecord.{VersionRecord}
use Rattle.blocks_words.specs.Words.{zero_block}
use Rattle.blocks_words.specs.Longs.{block_slots}
use Rattle.blocks_loads.specs.LoadedSlots.{loaded_to}
use Rattle.blocks.specs.declared.Header.{Header}
use Rattle.blocks.specs.SavedParts.{answered, handed_out}
use Rattle.blocks.specs.LoadHeader.{load_header_refusal, header_of, load_header_answer, LoadHeaderContract}
use Rattle.blocks.specs.LoadBlock.{load_block_refusal, load_block_answer, load_block_words, LoadBlockContract}

-- ---- a save: its answer and its block, of the block that is made or the refusal
pub answered_by : (m : Option Refusal) (block : List ℕ) → answered (unless m block) ≡ unless m tt
answered_by (Some e) block = refl
answered_by None block = refl

pub handed_out_by : (m : Option Refusal) (block : List ℕ) → handed_out (unless m block) ≡ kept_or m zero_block block
handed_out_by (Some e) block = refl
handed_out_by None block = refl

-- ---- load header
module _ {block : List ℕ} where
  pub header_not_loaded : {e : Refusal} → load_header_refusal block ≡ Some e → LoadHeaderContract block (Err e)
  unfolding load_header_answer
  header_not_loaded h = record { answer = unless_refused (header_of block) h }

  pub header_loaded : {r : Result Header Refusal} → load_header_refusal block ≡ None → r ≡ Ok (header_of block) → LoadHeaderContract block r
  unfolding load_header_answer
  header_loaded h e = record { answer = unless-done h e }

-- ---- load block
module _ {t u : List ℤ} {v : VersionRecord} {k : ℕ} {block : List ℕ} where
  pub block_not_loaded : {e : Refusal} → load_block_refusal t v k block ≡ Some e → u ≡ t → LoadBlockContract t v k block (Err e) u
  unfolding load_block_answer load_block_words
  block_not_loaded h same = record { answer = unless_refused tt h; words = kept_refused (loaded_to t k block block_slots) h same }

  pub block_loaded : {r : Result Unit Refusal} → load_block_refusal t v k block ≡ None → r ≡ Ok tt → u ≡ loaded_to t k block block_slots → LoadBlockContract t v k block r u
  unfolding load_block_answer load_block_words
  block_loaded h e made = record { answer = unless-done h e; words = kept-done t h made }

-- ---- what comes of a load of a block by its refusal: one that is refused leaves the words
pub record LoadRefuses (e : Refusal) (t : List ℤ) (r : Result Unit Refusal) (t' : List ℤ) : Type 0 where
  pub answer : r ≡ Err e
  pub words : t' ≡ t

module _ (t : List ℤ) (v : VersionRecord) (k : ℕ) (block : List ℕ) where
  pub load_refuses : (e : Refusal) → load_block_refusal t v k block ≡ Some e → LoadRefuses e t (load_block_answer t v k block) (load_block_words t v k block)
  unfolding load_block_answer load_block_words
  load_refuses e h = record { answer = rw h; words = rw h }

  pub load_accepts : load_block_refusal t v k block ≡ None → load_block_answer t v k block ≡ Ok tt
  unfolding load_block_answer
  load_accepts h = rw h
