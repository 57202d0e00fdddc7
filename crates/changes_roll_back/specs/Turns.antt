-- A turn of a lent record beside a lent table, by a call by value: what the call may answer and leave of them. Assumes nothing.
use Rattle.std.specs.Prelude.{◌≡◌, List, ℤ, Result}
use Rattle.std.proofs.Common.{MutBor}
use denote.Param.Members.{Once}
use Rattle.refusals.specs.declared.Refusal.{Refusal}
use Rattle.versions.specs.declared.VersionRecord.{VersionRecord}
use Rattle.versions_runs.specs.declared.Turned.{Turned}
use Rattle.versions_runs.specs.Runs.{turned_to}

-- at the table t and the record v, the call may answer r and leave the table t' and the record v'
pub record TurnsBeside {F : Type 0} (g : Once F (MutBor (List ℤ) × (VersionRecord × Unit {0})) (Turned × (MutBor (List ℤ) × Unit {0})))
    (f : F) (t : List ℤ) (v : VersionRecord) (r : Result ℤ Refusal) (t' : List ℤ) (v' : VersionRecord) : Type 0 where
  pub shown : MutBor (List ℤ)
  pub shows : shown.now ≡ t
  pub left : MutBor (List ℤ)
  pub met : g.post f (shown, (v, tt)) (turned_to r v', (left, tt))
  pub leaves : left.now ≡ t'
