-- A record that is lent: code that hands it by value to a function g, stores a record over it, and answers what g answers. Two of its
-- locals hold a record, as it was and as g leaves it, and the code may store either; nothing else of g is known than `Turns`, what
-- its contract says of a record and of what g returns for it. `lent_meets` shows once, over the name of g, over `Turns` and over the
-- local that is stored, that the code does what g does by value if `Turns` also holds of g's answer beside the stored record. It
-- does where the record that g leaves is stored; code that stores the other, or that calls another function, is refused there.
-- The argument is a walk of the code. The borrow is opened, the record is copied out and handed to g, what g returns is spelled out
-- where it lies, its record is copied, one of the two is stored, its answer is read, and the borrow is closed at the stored record.
-- Signatures are `begin`'s and `begin_by_value`'s, which all such functions have. The check shows the same of `turn`, which `begin`
-- and `commit` go through, with no file, and no proof of this crate cites the walk. Assumes nothing.
use mathlib.Core.Path.{◌≡◌, refl, ap}
use mathlib.Core.Bool.{Bool, true}
use mathlib.Core.List.{[], ◌∷◌, List}
use Prim.Native.Nat.{ℕ}
use seplogic.Ra.Ura.{Ura}
use base.Fraction.{full_share}
use mir.Syntax.{Callee, Fn, local, value_local, ty_ref, named, mut, place, deref, field, copy, rv_opd, assign, call, seq, return}
use mir.Val.{Val, vptr}
use base.Logic.{SProp, ent, emp, via, fst∗, id⊢}
use base.Fml.{GName, Lft, Share, ftrue, flft, fat}
use prog.Model.{Model}
use prog.Routine.{Routine, Env}
use prog.Wp.{Calls, Loops, WpFn, Closed, Env as Locals}
use types.Logic.{Logic}
use contract.Monad.{fact}
use contract.Running.{Running, tables, tables_of}
use types.Kit.{Item, ‵, raw, ◌⊛◌, some, later, ◌$◌, ◌∵◌, !, qed, move, keep, drop, use1, split, join, pick, rewrite}
use types.Kit.{fsplit, fsplit3, fjoin, fjoin3, feq_i, suffices, frame, await, done}
use types.Run.{Opd, look, look_raw, init, store_raw, forget, stop, hop, fld, from, load, of_opd, and_then, no_more, assigns, land, returns}
use types.Run.{enter, alloc1, alloc0, params1, pass1, pass0, free1, free0}
use types.Part.{whole, sub, look_in}
use sound.WpLaws.{FmC, fm_of, WpFn-mono}
use denote.RattleType.{owns}
use denote.Laws.{Is, Lawful, shows}
use denote.Memory.{pointee}
use denote.Ref.{MutBor, MutRef, mut_vals, mut_Tells}
use denote.Signature.{plain}
use denote.Steps.{only, opens, closes, owned, peeks, heard, nothing}
use denote.Struct.Steps.{spelt}
use denote.Struct.Laws as struct
use denote.Enum.Laws as enum
use denote.Triple.Entry.{on_entry}
use denote.Triple.Spec.{triple_of}
use denote.Triple.Statement.{Contract, Triple}
use denote.Triple.Call.{calls_at}
use denote.Triple.Clauses.{Clauses, Lasts, closing, lasts}
use denote.Triple.Table.{entered, cited}
use denote.Triple.Walked.{says, Stays, stay_ref, walk_of, AllGo, Goes-ref, Walks, ends_at, walked, walk_Meets}
use Rattle.versions.specs.declared.VersionRecord.{VersionRecord}
use Rattle.versions_runs.specs.declared.Turned.{Turned}
use Rattle.versions_runs.specs.Runs.{turned_to}
use Rattle.versions.specs.contracts.VersionRecord as versions
use Rattle.versions.proofs.VersionRecord.TheLaws as version-laws
use Rattle.versions_runs.specs.contracts.Turned as turned
use Rattle.versions_runs.proofs.Turned.TheLaws as turned-laws
use Rattle.versions_runs.proofs.LentRecord as locals
use Rattle.versions_runs.proofs.LentRecord.{answer_type, answer_row, answer_mir, answer_laws, answer_plain, record_value, answer_value, record_is, answer_is}
use Rattle.versions_runs.specs.contracts.begin_by_value as begun
use Rattle.versions_runs.specs.contracts.begin as begin

-- ---- the two locals that hold a record, as it was and as g leaves it
abbrev was_local : ℕ
was_local = 2

abbrev left_local : ℕ
left_local = 4

abbrev holds_record : ℕ → Bool
holds_record = locals.holds_record was_local left_local

-- the record that local k holds
abbrev stored : ℕ → VersionRecord → Turned → VersionRecord
stored = locals.stored was_local left_local

-- ---- the code: local 0 is the answer, 1 the reference, 3 what g returns, and k the local whose record is stored
abbrev code : Callee → ℕ → Fn
code g k = record {
  lifetimes = 1;
  ty_params = [];
  givens = 0;
  outlives = [];
  params = 1;
  locals = local answer_mir value_local
      ∷ local (ty_ref (named 0) mut (pointee (versions.the_row).written)) value_local
      ∷ local version-laws.mir value_local
      ∷ local turned-laws.mir value_local
      ∷ local version-laws.mir value_local
      ∷ [];
  body = seq (assign (place was_local []) (rv_opd (copy (place 1 (deref version-laws.mir ∷ [])))))
      (seq (call g (copy (place was_local []) ∷ []) (place 3 []))
      (seq (assign (place left_local []) (rv_opd (copy (place 3 (field 1 ∷ [])))))
      (seq (assign (place 1 (deref version-laws.mir ∷ [])) (rv_opd (copy (place k []))))
      (seq (assign (place 0 []) (rv_opd (copy (place 3 (field 0 ∷ []))))) return))));
}

-- ---- the reference is still owned at exit; `goes` says its last value
abbrev stayed : Stays (begin.ended).signature.params (begin.ended).kept
stayed = (stay_ref (0 ∷ []) tt (plain (λ _. versions.the_row)), tt)

module _ {M : Type 1} (Turns : VersionRecord → Turned → Type 0) (𝓤 : Ura M) (𝓛 : Logic 𝓤) where
  -- ---- the two contracts
  open 𝓛 use {H}

  abbrev by_value : Clauses 𝓤 begun.ended
  by_value κs a = record { ghost = Unit {0}; requires = λ _. emp 𝓤; ensures = λ _ r _. fact 𝓤 (Turns a.0 r) }

  abbrev lent : Clauses 𝓤 begin.ended
  lent κs a = record {
    ghost = Unit {0};
    requires = λ _. emp 𝓤;
    ensures = λ _ r e. fact 𝓤 (Turns a.0.now (turned_to r e.0.now));
  }

  abbrev ByValue : Contract 𝓤
  ByValue = triple_of 𝓛 begun.signature (closing 𝓛 begun.ended by_value)

  abbrev Lent : Contract 𝓤
  Lent = triple_of 𝓛 begin.signature (closing 𝓛 begin.ended lent)

  module _ where
    abbrev record_lawful : Lawful 𝓛 versions.the_row
    record_lawful = struct.lawful versions.the_type version-laws.the_laws 𝓛

    abbrev answer_lawful : Lawful 𝓛 answer_row
    answer_lawful = enum.lawful answer_type answer_laws 𝓛 tt

    abbrev turned_lawful : Lawful 𝓛 turned.the_row
    turned_lawful = struct.lawful turned.the_type turned-laws.the_laws 𝓛

    -- reading local k gives the record that it holds, where reading either of the two does
    read-stored : {K : Type 0} {Γ : List (Item 𝓤)} {E : Locals 𝓤 H} (v : VersionRecord) (r : Turned) (k : ℕ) → holds_record k ≡ true
        → Opd K 𝓛 Γ E (copy (place was_local [])) (record_value v) → Opd K 𝓛 Γ E (copy (place left_local [])) (record_value r.versions)
        → Opd K 𝓛 Γ E (copy (place k [])) (record_value (stored k v r))
    read-stored {K} {Γ} {E} v r k holds was left =
        locals.by-local was_local left_local v r (λ k x. Opd K 𝓛 Γ E (copy (place k [])) (record_value x)) was left k holds

    goes : AllGo 𝓛 1 (begin.signature).params (begin.ended).kept stayed
    goes = (Goes-ref 𝓛 1 0 tt (plain (λ _. versions.the_row)), tt)

    module _ (C : Calls 𝓤 H) (Λ : Loops 𝓤 H) (framed : FmC 𝓤 H 𝓛.laws C) (g : Callee) (known : Triple 𝓤 (C g) ByValue)
        (k : ℕ) (holds : holds_record k ≡ true) (meets : (v : VersionRecord) (r : Turned) → Turns v r → Turns v (turned_to r.answer (stored k v r))) where
      -- ---- the walk, at a lifetime and a share of its token, and at a reference and the record v behind it
      module _ (κ : Lft) (q : Share) (b o : ℕ) (γ : GName) (v : VersionRecord) where
        abbrev reference : MutBor VersionRecord × Unit {0}
        reference = (record { ref_ptr = (b, o); ghost_name = γ; now = v }, tt)

        abbrev pointer : List Val × Unit {0}
        pointer = (vptr b o ∷ [], tt)

        abbrev Post : Val → SProp 𝓤
        Post = (walk_of 𝓛 begin.ended stayed lent).post (((κ, tt), (q, tt), tt, reference, pointer), tt)

        -- what g is called at
        abbrev to_g : ByValue.Ghost
        to_g = ((tt, tt, tt, (v, tt), (record_value v ∷ [], tt)), tt)

        -- what is had once it has returned u: what a value r owns at u, and what g's contract says of v and r
        abbrev of_g : Val → Turned → Item 𝓤
        of_g u r =
            (‵ ftrue ⊛ ‵ ((turned.the_row).own_val r (u ∷ [])))
            ⊛ some (λ (ws : Lasts begun.ended tt (v, tt)). ‵ (lasts begun.ended tt (v, tt) ws) ⊛ raw (fact 𝓤 (Turns v r)))

        walk : ent 𝓤 (on_entry 𝓛 begin.signature (κ, tt) (q, tt) reference pointer) (WpFn 𝓤 H C Λ (code g k) (vptr b o ∷ []) Post)
        walk =
            qed 𝓛 ((‵ (flft κ q) ⊛ ‵ ftrue) ∷ ‵ (owns (MutRef (named 0) κ versions.the_row ∷ []) reference pointer) ∷ []) ∵
            split ! $ move ! (2 ∷ []) $ fsplit ! $ fsplit3 ! $ drop ! $ keep ! (0 ∷ 1 ∷ 3 ∷ []) $
            -- has: what is seen of the borrow, the borrow, the token
            enter ! C Λ (code g k) (vptr b o ∷ []) _ $ alloc1 ! (λ _. alloc1 ! (λ _. alloc1 ! (λ _. alloc1 ! (λ returned-at. alloc1 ! (λ _. alloc0 ! $
            params1 ! $ pass1 ! (init ! 6 refl (tt, tt)) $ pass0 ! $
            -- has: local 4 and what frees it, 3, 2, 1 and 0 likewise; then the three of the borrow
            move ! (10 ∷ 11 ∷ 12 ∷ []) $ opens ! tt versions.the_row {h = v} b o (λ vs.
            spelt ! versions.the_row (Is versions.the_row) (shows 𝓛 versions.the_row)
            (struct.vals versions.the_type version-laws.the_laws) (struct.tells versions.the_type version-laws.the_laws) full_share v vs b o $
            move ! (1 ∷ []) $ peeks ! versions.the_row (Is versions.the_row) (shows 𝓛 versions.the_row) v (record_value v ∷ []) (λ was.
            -- has: what the record owns, its cell, the open borrow, what is seen of it and what it may be set by; the locals from 5
            -- was = *1
            assigns ! (of_opd ! (load ! (from ! (hop ! (look ! 11 refl) (stop !))) (look_raw ! 1 refl))) (from ! (stop !))
            (init ! 9 refl (record_lawful.typed v _ was).0) $
            -- 3 = g(was)
            nothing ! $ move ! (1 ∷ 0 ∷ []) $ join ! $ nothing ! $ join ! $ nothing ! $ move ! (1 ∷ 0 ∷ []) $ join ! $
            use1 𝓛 (raw (ByValue.pre to_g)) (id⊢ 𝓤 _) $
            calls_at ! framed ByValue known to_g (and_then ! (load ! (from ! (stop !)) (look ! 9 refl)) (no_more !)) (λ u.
            use1 𝓛 (later (some (of_g u))) (id⊢ 𝓤 _) $ await ! tt $ pick ! (λ r.
            split ! $ move ! (1 ∷ []) $ pick ! (λ _. split ! $ drop ! $ heard ! (Turns v r) (λ turns. split ! $ drop ! $
            peeks ! turned.the_row (Is turned.the_row) (shows 𝓛 turned.the_row) r (u ∷ []) (λ is.
            land ! (from ! (stop !)) (init ! 7 refl (turned_lawful.typed r _ is).0) $
            rewrite ! 7 (λ (w : Val). ‵ (fat full_share turned-laws.mir returned-at 0 w))
            (ap only (struct.tells turned.the_type turned-laws.the_laws r _ is)) refl $ drop ! $
            -- has: the record's cell, the three of the open borrow; the locals from 4
            -- left = 3.version
            assigns ! (of_opd ! (load ! (from ! (fld ! refl (stop !))) (look_in ! 6 (sub ! 1 refl (whole !)))))
            (from ! (stop !)) (init ! 4 refl (record_lawful.typed r.versions _ (record_is r u is)).0) $
            -- *1 = k
            assigns ! (of_opd ! (read-stored v r k holds
            (load ! (from ! (stop !)) (look ! 8 refl)) (load ! (from ! (stop !)) (look ! 4 refl))))
            (from ! (hop ! (look ! 10 refl) (stop !))) (store_raw ! 0 refl
            (record_lawful.typed (stored k v r) _ (locals.stored_is was_local left_local v r u k holds was is)).0) $
            -- 0 = 3.answer
            assigns ! (of_opd ! (load ! (from ! (fld ! refl (stop !))) (look_in ! 6 (sub ! 0 refl (whole !)))))
            (from ! (stop !)) (init ! 12 refl (answer_lawful.typed r.answer _ (answer_is r u is)).0) $
            owned ! versions.the_row (Is versions.the_row) (struct.makes versions.the_type version-laws.the_plain 𝓛)
            (stored k v r) _ (locals.stored_is was_local left_local v r u k holds was is) $
            move ! (1 ∷ 0 ∷ []) $ closes ! tt versions.the_row (stored k v r) (record_value (stored k v r) ∷ []) b o $
            -- has: the three of the borrow; the locals from 3
            -- return
            returns ! (look ! 11 refl) $ forget ! 3 refl $ forget ! 5 refl $ forget ! 7 refl $ forget ! 9 refl $ forget ! 11 refl $
            move ! (11 ∷ 12 ∷ []) $ free1 ! $ move ! (9 ∷ 10 ∷ []) $ free1 ! $ move ! (7 ∷ 8 ∷ []) $ free1 ! $
            move ! (5 ∷ 6 ∷ []) $ free1 ! $ move ! (3 ∷ 4 ∷ []) $ free1 ! $ free0 ! $ keep ! (0 ∷ 1 ∷ 2 ∷ []) $
            -- the contract, at the answer that g gives and the record that is stored
            suffices ! _ (ends_at 𝓛 begin.ended stayed lent (((κ, tt), (q, tt), tt, reference, pointer), tt)
            (answer_value r.answer) r.answer (stored k v r, tt) (tt, tt)) $ says ! (meets v r turns) $
            nothing ! $ move ! (3 ∷ 0 ∷ []) $ join ! $ frame ! $
            feq_i ! (List Val) (vptr b o ∷ []) (vptr b o ∷ []) refl $ fjoin3 ! $ nothing ! $ move ! (1 ∷ 0 ∷ []) $ fjoin ! $
            owned ! answer_row (Is answer_row) (enum.makes answer_type answer_plain 𝓛)
            r.answer _ (answer_is r u is) $
            move ! (1 ∷ 0 ∷ []) $ done !))))))))))))

      walks : Walks 𝓛 begin.ended stayed (WpFn 𝓤 H C Λ (code g k)) lent
      walks =
          walked 𝓛 begin.ended stayed lent (WpFn 𝓤 H C Λ (code g k))
          (λ κs. (mut_vals, tt)) (λ κs. (mut_Tells (named 0) κs.0 versions.the_row, tt))
          (λ κs qs bounds a _ _. via 𝓤 _ (fst∗ 𝓤 _ (emp 𝓤)) (walk κs.0 qs.0 a.0.ref_ptr.0 a.0.ref_ptr.1 a.0.ghost_name a.0.now))

-- ---- from g's routine to the function f that has the code
pub lent_meets : {M : Type 1} (Turns : VersionRecord → Turned → Type 0)
    (𝓤 : Ura M) (𝓛 : Logic 𝓤) (𝓜 : Model 𝓤 𝓛.H) (𝓡 : Running 𝓤 𝓛.H 𝓜) (env : Env) (f g : Callee) (r : Routine)
    → env g ≡ r → (k : ℕ) → holds_record k ≡ true → Closed 𝓤 𝓛.H (tables 𝓤 𝓛.H 𝓜 𝓡 env).C (tables 𝓤 𝓛.H 𝓜 𝓡 env).Λ f (code g k)
    → ((v : VersionRecord) (t : Turned) → Turns v t → Turns v (turned_to t.answer (stored k v t)))
    → Triple 𝓤 (𝓡.run r) (ByValue Turns 𝓤 𝓛) → Triple 𝓤 ((tables 𝓤 𝓛.H 𝓜 𝓡 env).C f) (Lent Turns 𝓤 𝓛)
unfolding tables_of
lent_meets Turns 𝓤 𝓛 𝓜 𝓡 env f g r calls k holds closed meets met =
    let 𝓣 = tables_of 𝓤 𝓛.H 𝓜 (tables 𝓤 𝓛.H 𝓜 𝓡 env) in
    let known = cited 𝓤 𝓛.H (ByValue Turns 𝓤 𝓛) 𝓜 𝓡 env g r calls met in
    entered 𝓤 𝓛.H (Lent Turns 𝓤 𝓛) 𝓣.C 𝓣.Λ f (code g k) closed
    (walk_Meets 𝓛 begin.ended stayed (goes Turns 𝓤 𝓛) (lent Turns 𝓤 𝓛) (WpFn 𝓤 𝓛.H 𝓣.C 𝓣.Λ (code g k))
    (WpFn-mono 𝓤 𝓛.H 𝓛.laws 𝓣 (code g k)) (walks Turns 𝓤 𝓛 𝓣.C 𝓣.Λ (fm_of 𝓤 𝓛.H 𝓛.laws 𝓣) g known k holds meets))
