-- How tight the contracts are: for each call of the face, two outcomes that its contract allows for the same inputs are equal in
-- answer, record, block and every table word. Each contract gives its outcome as a function of the inputs, so this follows at
-- once. Assumes nothing.
use Rattle.std.specs.Prelude.{◌≡◌, List, ℕ, ℤ, Option, Result}
use Rattle.refusals.specs.declared.Refusal.{Refusal}
use Rattle.versions.specs.declared.VersionRecord.{VersionRecord}
use Rattle.versions_runs.specs.declared.Turned.{Turned}
use Rattle.versions_runs.specs.Runs.{OpenContract, BeginContract, CommitContract}
use Rattle.versions_runs.specs.RunLaws.{one_opened, one_begun, one_committed}
use Rattle.reads.specs.declared.Row.{Row}
use Rattle.reads_roll_up.specs.declared.Sums.{Sums}
use Rattle.reads.specs.ReadSlot.{ReadSlotContract}
use Rattle.reads.specs.ReadSlot as read_slot
use Rattle.reads.specs.ReadKey.{ReadKeyContract}
use Rattle.reads.specs.ReadKey as read_key
use Rattle.reads_roll_up.specs.RollUp.{RollUpContract}
use Rattle.reads_roll_up.specs.RollUp as roll_up
use Rattle.changes.specs.Put.{PutContract}
use Rattle.changes.specs.Put as put
use Rattle.changes.specs.Delete.{DeleteContract}
use Rattle.changes.specs.Delete as delete
use Rattle.changes_roll_back.specs.RollBack.{RollBackContract}
use Rattle.changes_roll_back.specs.RollBackLaws as roll_back
use Rattle.blocks.specs.declared.Header.{Header}
use Rattle.blocks.specs.declared.saved.Saved.{Saved}
use Rattle.blocks.specs.SaveHeader.{SaveHeaderContract}
use Rattle.blocks.specs.SaveHeader as save_header
use Rattle.blocks.specs.SaveBlock.{SaveBlockContract}
use Rattle.blocks.specs.SaveBlock as save_block
use Rattle.blocks.specs.LoadHeader.{LoadHeaderContract}
use Rattle.blocks.specs.LoadHeader as load_header
use Rattle.blocks.specs.LoadBlock.{LoadBlockContract}
use Rattle.blocks.specs.LoadBlock as load_block

pub record Tight : Type 0 where
  pub of_open : {v : VersionRecord} {r r' : Result ℤ Refusal} → OpenContract v r → OpenContract v r' → r ≡ r'
  -- the record that begin and commit leave is u
  pub of_begin : {v u u' : VersionRecord} {r r' : Result ℤ Refusal} → BeginContract v r u → BeginContract v r' u' → (r ≡ r') × (u ≡ u')
  pub of_commit : {v u u' : VersionRecord} {r r' : Result ℤ Refusal} → CommitContract v r u → CommitContract v r' u' → (r ≡ r') × (u ≡ u')
  -- by value, what is left is the answer and the record
  pub of_begin_by_value : {v : VersionRecord} {r r' : Turned} → BeginContract v r.answer r.versions → BeginContract v r'.answer r'.versions → r ≡ r'
  pub of_commit_by_value : {v : VersionRecord} {r r' : Turned} → CommitContract v r.answer r.versions → CommitContract v r'.answer r'.versions → r ≡ r'
  pub of_read_slot : {t : List ℤ} {v : VersionRecord} {s : ℤ} {k : ℕ} {r r' : Result (Option Row) Refusal}
      → ReadSlotContract t v s k r → ReadSlotContract t v s k r' → r ≡ r'
  pub of_read_key : {t : List ℤ} {v : VersionRecord} {s key1 key2 : ℤ} {r r' : Result (Option Row) Refusal}
      → ReadKeyContract t v s key1 key2 r → ReadKeyContract t v s key1 key2 r' → r ≡ r'
  pub of_roll_up : {t : List ℤ} {v : VersionRecord} {s key1 : ℤ} {r r' : Result Sums Refusal}
      → RollUpContract t v s key1 r → RollUpContract t v s key1 r' → r ≡ r'
  -- the table's words that a change leaves are u
  pub of_put : {t u u' : List ℤ} {v : VersionRecord} {key1 key2 total1 total2 : ℤ} {r r' : Result ℕ Refusal}
      → PutContract t v key1 key2 total1 total2 r u → PutContract t v key1 key2 total1 total2 r' u' → (r ≡ r') × (u ≡ u')
  pub of_delete : {t u u' : List ℤ} {v : VersionRecord} {key1 key2 : ℤ} {r r' : Result ℕ Refusal}
      → DeleteContract t v key1 key2 r u → DeleteContract t v key1 key2 r' u' → (r ≡ r') × (u ≡ u')
  -- a roll back leaves both
  pub of_roll_back : {t u u' : List ℤ} {v w w' : VersionRecord} {r r' : Result ℤ Refusal}
      → RollBackContract t v r u w → RollBackContract t v r' u' w' → (r ≡ r') × (u ≡ u') × (w ≡ w')
  pub of_roll_back_by_value : {t u u' : List ℤ} {v : VersionRecord} {r r' : Turned}
      → RollBackContract t v r.answer u r.versions → RollBackContract t v r'.answer u' r'.versions → (r ≡ r') × (u ≡ u')
  -- a save hands out its answer and a block
  pub of_save_header : {t : List ℤ} {v : VersionRecord} {r r' : Saved}
      → SaveHeaderContract t v r → SaveHeaderContract t v r' → (r.answer ≡ r'.answer) × (r.block ≡ r'.block)
  pub of_save_block : {t : List ℤ} {v : VersionRecord} {k : ℕ} {r r' : Saved}
      → SaveBlockContract t v k r → SaveBlockContract t v k r' → (r.answer ≡ r'.answer) × (r.block ≡ r'.block)
  pub of_load_header : {block : List ℕ} {r r' : Result Header Refusal} → LoadHeaderContract block r → LoadHeaderContract block r' → r ≡ r'
  pub of_load_block : {t u u' : List ℤ} {v : VersionRecord} {k : ℕ} {block : List ℕ} {r r' : Result Unit Refusal}
      → LoadBlockContract t v k block r u → LoadBlockContract t v k block r' u' → (r ≡ r') × (u ≡ u')

one_turned : {r r' : Turned} → r.answer ≡ r'.answer → r.versions ≡ r'.versions → r ≡ r'
one_turned a v i = record { answer = a i; versions = v i }

pub tight : Tight
tight = record {
  of_open = one_opened;
  of_begin = one_begun;
  of_commit = one_committed;
  of_begin_by_value = λ a b. one_turned (one_begun a b).0 (one_begun a b).1;
  of_commit_by_value = λ a b. one_turned (one_committed a b).0 (one_committed a b).1;
  of_read_slot = read_slot.one_outcome;
  of_read_key = read_key.one_outcome;
  of_roll_up = roll_up.one_outcome;
  of_put = put.one_outcome;
  of_delete = delete.one_outcome;
  of_roll_back = λ a b. let e = roll_back.one_outcome a b in (e.0, e.1.0, e.1.1);
  of_roll_back_by_value = λ a b. let e = roll_back.one_outcome a b in (one_turned e.0 e.1.1, e.1.0);
  of_save_header = save_header.one_outcome;
  of_save_block = save_block.one_outcome;
  of_load_header = load_header.one_outcome;
  of_load_block = load_block.one_outcome;
}
