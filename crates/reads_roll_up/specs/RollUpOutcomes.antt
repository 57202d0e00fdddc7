-- What comes of a roll-up of a table and a record that are not refused, by a session that is born: it is refused as expired, or
-- answers what the tally gives. Assumes nothing.
use Rattle.std.specs.Prelude.{◌≡◌, true, false, List, ℤ, Ok, Err}
use Rattle.std.proofs.Common.{◌∙◌}
use Rattle.refusals.specs.declared.Refusal.TheVariants as refusal
use Rattle.laws.specs.FirstLaws.{skip, done}
use Rattle.versions.specs.declared.VersionRecord.{VersionRecord}
use Rattle.versions.specs.Record.{bad_record}
use Rattle.versions.specs.Sessions.{unborn, expired}
use Rattle.table.specs.Slots.{bad_table, slots}
use Rattle.table_forms.specs.Formed.{any_broken}
use Rattle.reads.specs.ReadOutcomes.{is4, past4}
use Rattle.reads_roll_up.specs.RollUp.{tally, seen, sums, roll_up_refusal, roll_up_answer}

module _ (t : List ℤ) (v : VersionRecord) (s : ℤ) (shape : bad_table t ≡ false) (known : bad_record v ≡ false) (born : unborn v s ≡ false) where
  pub roll_up_expired : (key1 : ℤ) → expired v s ≡ true → roll_up_answer t v s key1 ≡ Err refusal.Expired
  unfolding roll_up_answer roll_up_refusal
  roll_up_expired key1 x = rw (is4 t v s shape known born x)

  pub roll_up_summed : expired v s ≡ false → (key1 : ℤ) → any_broken t v ≡ false → roll_up_answer t v s key1 ≡ Ok (sums (tally key1 (seen t s (slots t))))
  unfolding roll_up_answer roll_up_refusal
  roll_up_summed kept key1 w = rw (past4 t v s shape known born kept _ ∙ skip refusal.BrokenSlot _ w ∙ done)
