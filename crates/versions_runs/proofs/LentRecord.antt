-- What every walk of a lent record rests on: how a record, an answer and what a turn leaves lie in memory; and, of two locals that
-- hold a record, as it was and as it is left, that what holds of both holds of the one that is stored. Assumes nothing.
use mathlib.Core.Path.{◌≡◌, refl, sym, subst}
use mathlib.Core.Bool.{Bool, true, false, cond, ◌||◌}
use mathlib.Core.List.{[], ◌∷◌}
use Prim.Native.Nat.{ℕ}
use lib.Dec.{eqb}
use borrow.Author.Tests.{eqb-true}
use mir.Syntax.{Ty}
use mir.Val.{Val}
use denote.Laws.{Is}
use denote.RattleType.{RattleType}
use denote.Builtin.{i64}
use denote.Param.{layout}
use denote.Param.Laws.{Laws, of_field, field_told}
use denote.Param.Shared.{copy_shared}
use denote.Struct.Field.{i64-field}
use denote.Struct.Laws.{i64-laws, i64-copy, i64-plain}
use denote.Enum.Declared.{Declared, variants}
use denote.Enum.Enum.{Plainss}
use denote.Struct.Laws as struct
use denote.Enum.Laws as enum
use Rattle.std.specs.Prelude.{Result, ℤ}
use Rattle.std.specs.contracts.result.Result as result
use Rattle.std.proofs.result.Result.TheLaws as result-laws
use Rattle.refusals.specs.declared.Refusal.{Refusal}
use Rattle.refusals.specs.contracts.Refusal as refusal
use Rattle.refusals.proofs.Refusal.TheLaws as refusal-laws
use Rattle.versions.specs.declared.VersionRecord.{VersionRecord}
use Rattle.versions_runs.specs.declared.Turned.{Turned}
use Rattle.versions.specs.contracts.VersionRecord as versions
use Rattle.versions.proofs.VersionRecord.TheLaws as version-laws
use Rattle.versions_runs.specs.contracts.Turned as turned
use Rattle.versions_runs.proofs.Turned.TheLaws as turned-laws

-- ---- the type of an answer, a Result of a number or a refusal, and its laws
abbrev pub answer_type : Declared
answer_type = result.the_type i64 refusal.the_row

abbrev pub answer_row : RattleType
answer_row = result.the_row i64 refusal.the_row

abbrev pub answer_mir : Ty
answer_mir = layout answer_row

abbrev number_laws : Laws i64
number_laws = of_field i64-field i64-laws refl (copy_shared i64-field i64-copy)

abbrev pub answer_laws : enum.Laws answer_type
answer_laws = result-laws.the_laws i64 refusal.the_row number_laws refusal-laws.the_row_laws (field_told i64-field i64-laws) refusal-laws.the_told

abbrev pub answer_plain : Plainss (variants answer_type)
answer_plain = result-laws.the_plain i64 refusal.the_row i64-plain refusal-laws.the_row_plain

-- ---- a record and an answer as they lie in memory; where what is returned lies there, so do they
abbrev pub record_value : VersionRecord → Val
record_value = struct.val versions.the_type version-laws.the_laws

abbrev pub answer_value : Result ℤ Refusal → Val
answer_value = enum.val answer_type answer_laws

pub record_is : (r : Turned) (u : Val) → Is turned.the_row r (u ∷ []) → Is versions.the_row r.versions (record_value r.versions ∷ [])
record_is r u is = (struct.owed turned.the_type turned-laws.the_laws r (u ∷ []) is).1.0

pub answer_is : (r : Turned) (u : Val) → Is turned.the_row r (u ∷ []) → Is answer_row r.answer (answer_value r.answer ∷ [])
answer_is r u is = (struct.owed turned.the_type turned-laws.the_laws r (u ∷ []) is).0

-- ---- the two locals that hold a record, as it was and as it is left
module _ (was_local left_local : ℕ) where
  abbrev pub holds_record : ℕ → Bool
  holds_record k = eqb k left_local || eqb k was_local

  -- the record that local k holds
  abbrev pub stored : ℕ → VersionRecord → Turned → VersionRecord
  stored k v r = cond (eqb k left_local) r.versions v

  -- what holds of both holds of it
  pub by-local {ℓ} : (v : VersionRecord) (r : Turned) (P : ℕ → VersionRecord → Type ℓ) → P was_local v → P left_local r.versions
      → (k : ℕ) → holds_record k ≡ true → P k (stored k v r)
  by-local v r P was left k holds = go (eqb k left_local) refl
    where
      go : (b : Bool) → eqb k left_local ≡ b → P k (cond b r.versions v)
      go true e = subst (λ j. P j r.versions) (sym (eqb-true k left_local e)) left
      go false e = subst (λ j. P j v) (sym (eqb-true k was_local (rw e at holds))) was

  pub stored_is : (v : VersionRecord) (r : Turned) (u : Val) (k : ℕ) → holds_record k ≡ true → Is versions.the_row v (record_value v ∷ [])
      → Is turned.the_row r (u ∷ []) → Is versions.the_row (stored k v r) (record_value (stored k v r) ∷ [])
  stored_is v r u k holds was is = by-local v r (λ k x. Is versions.the_row x (record_value x ∷ [])) was (record_is r u is) k holds
