-- A record that is lent beside a table: code that hands the table on and the record by value to a function g, stores a record over
-- the lent one, and answers what g answers. Two of its locals hold a record, as it was and as g leaves it, and the code may store
-- either; nothing else of g is known than `Turns`, what its contract says of table and record at entry, of what g returns, and of the
-- table at exit. `lent_meets` shows, over the name of g, over `Turns` and over the local that is stored, that the code does what g
-- does by value if `Turns` also holds of g's answer beside the stored record. It does where the record that g leaves is stored; code
-- that stores the other is refused there. The argument is the walk of `versions_runs/proofs/Lent` with a slice beside the record: the
-- borrow of the record is opened and copied out, the table is lent on to g with its token, and comes back at its last list with its
-- borrow. Signatures are `roll_back`'s and `roll_back_by_value`'s. The check shows the same of `turn_beside`, which `roll_back` goes
-- through, with no file, and no proof of this crate cites the walk. Assumes nothing.
use mathlib.Core.Path.{◌≡◌, refl, ap}
use mathlib.Core.Bool.{Bool, true}
use mathlib.Core.List.{[], ◌∷◌, List}
use Prim.Native.Nat.{ℕ}
use lib.IntN.{ℤ}
use lib.ListN.{length}
use seplogic.Ra.Ura.{Ura}
use base.Fraction.{full_share}
use mir.Syntax.{Callee, Fn, local, value_local, ty_ref, ty_int, w64, named, erased, mut, place, deref, field, copy, rv_opd, addr_of, aggregate, assign, call, seq, return}
use mir.Val.{Val, vptr}
use base.Logic.{SProp, ent, emp, via, fst∗, id⊢}
use base.Fml.{GName, Lft, Share, ftrue, flft, fat}
use prog.Model.{Model}
use prog.Routine.{Routine, Env}
use prog.Wp.{Calls, Loops, WpFn, Closed, Env as Locals}
use types.Logic.{Logic}
use contract.Monad.{fact}
use contract.Running.{Running, tables, tables_of}
use types.Kit.{Item, ‵, raw, ◌⊛◌, some, later, ◌$◌, ◌∵◌, !, qed, move, keep, drop, use1, split, join, pick, rewrite}
use types.Kit.{fsplit, fsplit3, fjoin, fjoin3, feq_i, feq_l, suffices, frame, await, done}
use types.Run.{Opd, look, look_raw, init, store_raw, forget, stop, hop, fld, from, load, addr, of_opd, and_then, no_more, assigns, land, returns}
use types.Run.{enter, alloc1, alloc0, params1, pass1, pass0, free1, free0}
use types.Part.{agg, whole, sub, look_in}
use sound.WpLaws.{FmC, fm_of, WpFn-mono}
use denote.RattleType.{owns}
use denote.Laws.{Is, Lawful, shows}
use denote.Memory.{pointee}
use denote.Builtin.{i64}
use denote.Ref.{MutBor, MutRef, mut_vals, mut_Tells}
use denote.Slice.{slice_ty, slice_val, MutSlice, Room, mut_slice_vals, mut_slice_Tells}
use denote.Signature.{plain}
use denote.Steps.{only, opens, closes, owned, peeks, heard, nothing}
use denote.Struct.Steps.{spelt}
use denote.Struct.Laws as struct
use denote.Enum.Laws as enum
use denote.Triple.Entry.{on_entry}
use denote.Triple.Spec.{triple_of}
use denote.Triple.Statement.{Contract, Triple}
use denote.Triple.Call.{calls_at}
use denote.Triple.Clauses.{Clauses, Lasts, closing, lasts}
use denote.Triple.Table.{entered, cited}
use denote.Triple.Walked.{says, Stays, stay_ref, gave_slice, walk_of, AllGo, Goes-ref, Goes-gave_slice, Walks, ends_at, walked, walk_Meets}
use Rattle.versions.specs.declared.VersionRecord.{VersionRecord}
use Rattle.versions_runs.specs.declared.Turned.{Turned}
use Rattle.versions_runs.specs.Runs.{turned_to}
use Rattle.versions.specs.contracts.VersionRecord as versions
use Rattle.versions.proofs.VersionRecord.TheLaws as version-laws
use Rattle.versions_runs.specs.contracts.Turned as turned
use Rattle.versions_runs.proofs.Turned.TheLaws as turned-laws
use Rattle.versions_runs.proofs.LentRecord as locals
use Rattle.versions_runs.proofs.LentRecord.{answer_type, answer_row, answer_mir, answer_laws, answer_plain, record_value, answer_value, record_is, answer_is}
use Rattle.changes_roll_back.specs.contracts.roll_back_by_value as by_values
use Rattle.changes_roll_back.specs.contracts.roll_back as lends

-- ---- the two locals that hold a record, as it was and as g leaves it
abbrev was_local : ℕ
was_local = 3

abbrev left_local : ℕ
left_local = 5

abbrev holds_record : ℕ → Bool
holds_record = locals.holds_record was_local left_local

-- the record that local k holds
abbrev stored : ℕ → VersionRecord → Turned → VersionRecord
stored = locals.stored was_local left_local

-- ---- the code: local 0 is the answer, 1 the table, 2 the reference, 4 what g returns, 6 and 7 the table lent on, and k the local whose
-- record is stored
abbrev code : Callee → ℕ → Fn
code g k = record {
  lifetimes = 2;
  outlives = [];
  ty_params = [];
  givens = 0;
  params = 2;
  locals = local answer_mir value_local
      ∷ local (slice_ty (ty_ref (named 0) mut (ty_int w64))) value_local
      ∷ local (ty_ref (named 1) mut (pointee (versions.the_row).written)) value_local
      ∷ local version-laws.mir value_local
      ∷ local turned-laws.mir value_local
      ∷ local version-laws.mir value_local
      ∷ local (ty_ref erased mut (ty_int w64)) value_local
      ∷ local (slice_ty (ty_ref erased mut (ty_int w64))) value_local
      ∷ [];
  body = seq (assign (place was_local []) (rv_opd (copy (place 2 (deref version-laws.mir ∷ [])))))
      (seq (assign (place 6 []) (addr_of (place 1 (field 0 ∷ deref (ty_int w64) ∷ []))))
      (seq (assign (place 7 []) (aggregate (copy (place 6 []) ∷ copy (place 1 (field 1 ∷ [])) ∷ [])))
      (seq (call g (copy (place 7 []) ∷ copy (place was_local []) ∷ []) (place 4 []))
      (seq (assign (place left_local []) (rv_opd (copy (place 4 (field 1 ∷ [])))))
      (seq (assign (place 2 (deref version-laws.mir ∷ [])) (rv_opd (copy (place k []))))
      (seq (assign (place 0 []) (rv_opd (copy (place 4 (field 0 ∷ []))))) return))))));
}

-- ---- the table is given back at exit and the reference is still owned; `goes` says their last values
abbrev stayed : Stays (lends.ended).signature.params (lends.ended).kept
stayed = (gave_slice (0 ∷ []) tt (plain (λ _. i64)), (stay_ref (1 ∷ []) tt (plain (λ _. versions.the_row)), tt))

module _ {M : Type 1} (Turns : List ℤ → VersionRecord → Turned → List ℤ → Type 0) (𝓤 : Ura M) (𝓛 : Logic 𝓤) where
  -- ---- the two contracts
  open 𝓛 use {H}

  abbrev by_value : Clauses 𝓤 by_values.ended
  by_value κs a = record { ghost = Unit {0}; requires = λ _. emp 𝓤; ensures = λ _ r e. fact 𝓤 (Turns a.0.now a.1.0 r e.0.now) }

  abbrev lent : Clauses 𝓤 lends.ended
  lent κs a = record {
    ghost = Unit {0};
    requires = λ _. emp 𝓤;
    ensures = λ _ r e. fact 𝓤 (Turns a.0.now a.1.0.now (turned_to r e.1.0.now) e.0.now);
  }

  abbrev ByValue : Contract 𝓤
  ByValue = triple_of 𝓛 by_values.signature (closing 𝓛 by_values.ended by_value)

  abbrev Lent : Contract 𝓤
  Lent = triple_of 𝓛 lends.signature (closing 𝓛 lends.ended lent)

  module _ where
    abbrev record_lawful : Lawful 𝓛 versions.the_row
    record_lawful = struct.lawful versions.the_type version-laws.the_laws 𝓛

    abbrev answer_lawful : Lawful 𝓛 answer_row
    answer_lawful = enum.lawful answer_type answer_laws 𝓛 tt

    abbrev turned_lawful : Lawful 𝓛 turned.the_row
    turned_lawful = struct.lawful turned.the_type turned-laws.the_laws 𝓛

    -- reading local k gives the record that it holds, where reading either of the two does
    read-stored : {K : Type 0} {Γ : List (Item 𝓤)} {E : Locals 𝓤 H} (v : VersionRecord) (r : Turned) (k : ℕ) → holds_record k ≡ true
        → Opd K 𝓛 Γ E (copy (place was_local [])) (record_value v) → Opd K 𝓛 Γ E (copy (place left_local [])) (record_value r.versions)
        → Opd K 𝓛 Γ E (copy (place k [])) (record_value (stored k v r))
    read-stored {K} {Γ} {E} v r k holds was left =
        locals.by-local was_local left_local v r (λ k x. Opd K 𝓛 Γ E (copy (place k [])) (record_value x)) was left k holds

    goes : AllGo 𝓛 2 (lends.signature).params (lends.ended).kept stayed
    goes = (Goes-gave_slice 𝓛 2 0 tt (plain (λ _. i64)), (Goes-ref 𝓛 2 1 tt (plain (λ _. versions.the_row)), tt))

    module _ (C : Calls 𝓤 H) (Λ : Loops 𝓤 H) (framed : FmC 𝓤 H 𝓛.laws C) (g : Callee) (known : Triple 𝓤 (C g) ByValue)
        (k : ℕ) (holds : holds_record k ≡ true)
        (meets : (t : List ℤ) (v : VersionRecord) (r : Turned) (t' : List ℤ) → Turns t v r t' → Turns t v (turned_to r.answer (stored k v r)) t') where
      -- ---- the walk, at two lifetimes and shares of their tokens, at a reference and the record v behind it, and at a slice of the
      -- words t
      module _ (κ κ' : Lft) (q q' : Share) (b o : ℕ) (γ : GName) (v : VersionRecord) (b' o' : ℕ) (γ' : GName) (t : List ℤ) where
        abbrev table : MutBor (List ℤ)
        table = record { ref_ptr = (b', o'); ghost_name = γ'; now = t }

        abbrev slice : Val
        slice = slice_val (b', o') (length t)

        abbrev lent_both : MutBor (List ℤ) × (MutBor VersionRecord × Unit {0})
        lent_both = (table, (record { ref_ptr = (b, o); ghost_name = γ; now = v }, tt))

        abbrev pointers : List Val × (List Val × Unit {0})
        pointers = (slice ∷ [], (vptr b o ∷ [], tt))

        abbrev Post : Val → SProp 𝓤
        Post = (walk_of 𝓛 lends.ended stayed lent).post (((κ, (κ', tt)), (q, (q', tt)), tt, lent_both, pointers), tt)

        -- what g is called at
        abbrev to_g : ByValue.Ghost
        to_g = (((κ, tt), (q, tt), tt, (table, (v, tt)), (slice ∷ [], (record_value v ∷ [], tt))), tt)

        -- what is had once it has returned u: the table's token, what a value r owns at u, the table's last list with its borrow, and
        -- what g's contract says of them
        abbrev of_g : Val → Turned → Item 𝓤
        of_g u r =
            ((‵ (flft κ q) ⊛ ‵ ftrue) ⊛ ‵ ((turned.the_row).own_val r (u ∷ [])))
            ⊛ some (λ (ws : Lasts by_values.ended (κ, tt) (table, (v, tt))).
            ‵ (lasts by_values.ended (κ, tt) (table, (v, tt)) ws) ⊛ raw (fact 𝓤 (Turns t v r ws.0)))

        walk : Room i64 (length t) → ent 𝓤 (on_entry 𝓛 lends.signature (κ, (κ', tt)) (q, (q', tt)) lent_both pointers)
            (WpFn 𝓤 H C Λ (code g k) (slice ∷ vptr b o ∷ []) Post)
        walk room =
            qed 𝓛 ((‵ (flft κ q) ⊛ ‵ (flft κ' q') ⊛ ‵ ftrue)
            ∷ ‵ (owns (MutSlice (named 0) κ i64 ∷ MutRef (named 1) κ' versions.the_row ∷ []) lent_both pointers) ∷ []) ∵
            split ! $ move ! (1 ∷ []) $ split ! $ move ! (3 ∷ []) $ fsplit ! $ move ! (1 ∷ []) $ fsplit ! $ fsplit3 ! $ drop ! $
            keep ! (0 ∷ 1 ∷ 4 ∷ 6 ∷ 3 ∷ []) $
            -- has: what is seen of the borrow, the borrow, its token; the table's token, the table
            enter ! C Λ (code g k) (slice ∷ vptr b o ∷ []) _ $ alloc1 ! (λ _. alloc1 ! (λ _. alloc1 ! (λ _. alloc1 ! (λ _.
            alloc1 ! (λ returned-at. alloc1 ! (λ _. alloc1 ! (λ _. alloc1 ! (λ _. alloc0 ! $
            params1 ! $ pass1 ! (init ! 12 refl (tt, (tt, (record { fits = room.0 }, tt)))) $ pass1 ! (init ! 10 refl (tt, tt)) $ pass0 ! $
            -- has: local 7 and what frees it, .., 0 likewise; then those five
            move ! (16 ∷ 17 ∷ 18 ∷ []) $ opens ! tt versions.the_row {h = v} b o (λ vs.
            spelt ! versions.the_row (Is versions.the_row) (shows 𝓛 versions.the_row)
            (struct.vals versions.the_type version-laws.the_laws) (struct.tells versions.the_type version-laws.the_laws) full_share v vs b o $
            move ! (1 ∷ []) $ peeks ! versions.the_row (Is versions.the_row) (shows 𝓛 versions.the_row) v (record_value v ∷ []) (λ was.
            -- has: what the record owns, its cell, the open borrow, what is seen of it and what it may be set by; the locals from 5; the
            -- table's two
            -- was = *2
            assigns ! (of_opd ! (load ! (from ! (hop ! (look ! 15 refl) (stop !))) (look_raw ! 1 refl))) (from ! (stop !))
            (init ! 13 refl (record_lawful.typed v _ was).0) $
            -- 6 and 7 = the table, lent on
            assigns ! (addr ! (from ! (fld ! refl (hop ! (look_in ! 17 (sub ! 0 refl (whole !))) (stop !))))) (from ! (stop !))
            (init ! 7 refl (tt, tt)) $
            assigns ! (agg ! (and_then ! (load ! (from ! (stop !)) (look ! 7 refl))
            (and_then ! (load ! (from ! (fld ! refl (stop !))) (look_in ! 17 (sub ! 1 refl (whole !)))) (no_more !)))) (from ! (stop !))
            (init ! 5 refl (tt, (tt, (record { fits = room.0 }, tt)))) $
            -- 4 = g(7, was)
            nothing ! $ move ! (1 ∷ 0 ∷ []) $ join ! $ move ! (22 ∷ 0 ∷ []) $ join ! $ nothing ! $ move ! (22 ∷ 0 ∷ []) $ join ! $ join ! $
            nothing ! $ move ! (1 ∷ 0 ∷ []) $ join ! $
            use1 𝓛 (raw (ByValue.pre to_g)) (id⊢ 𝓤 _) $
            calls_at ! framed ByValue known to_g (and_then ! (load ! (from ! (stop !)) (look ! 5 refl))
            (and_then ! (load ! (from ! (stop !)) (look ! 13 refl)) (no_more !))) (λ u.
            use1 𝓛 (later (some (of_g u))) (id⊢ 𝓤 _) $ await ! tt $ pick ! (λ r.
            split ! $ move ! (1 ∷ []) $ pick ! (λ ws. split ! $ move ! (1 ∷ []) $ heard ! (Turns t v r ws.0) (λ turns.
            fsplit ! $ fsplit ! $ fsplit ! $ move ! (1 ∷ []) $ feq_l ! (λ same. fjoin ! $ move ! (2 ∷ []) $ split ! $ move ! (1 ∷ []) $
            peeks ! turned.the_row (Is turned.the_row) (shows 𝓛 turned.the_row) r (u ∷ []) (λ is.
            land ! (from ! (stop !)) (init ! 14 refl (turned_lawful.typed r _ is).0) $
            rewrite ! 14 (λ (w : Val). ‵ (fat full_share turned-laws.mir returned-at 0 w))
            (ap only (struct.tells turned.the_type turned-laws.the_laws r _ is)) refl $ drop ! $
            -- has: the table's token, its last list and borrow, nothing; the record's cell, the three of the open borrow; the locals
            -- from 7
            -- left = 4.versions
            assigns ! (of_opd ! (load ! (from ! (fld ! refl (stop !))) (look_in ! 13 (sub ! 1 refl (whole !)))))
            (from ! (stop !)) (init ! 11 refl (record_lawful.typed r.versions _ (record_is r u is)).0) $
            -- *2 = k
            assigns ! (of_opd ! (read-stored v r k holds
            (load ! (from ! (stop !)) (look ! 15 refl)) (load ! (from ! (stop !)) (look ! 11 refl))))
            (from ! (hop ! (look ! 17 refl) (stop !))) (store_raw ! 3 refl
            (record_lawful.typed (stored k v r) _ (locals.stored_is was_local left_local v r u k holds was is)).0) $
            -- 0 = 4.answer
            assigns ! (of_opd ! (load ! (from ! (fld ! refl (stop !))) (look_in ! 13 (sub ! 0 refl (whole !)))))
            (from ! (stop !)) (init ! 21 refl (answer_lawful.typed r.answer _ (answer_is r u is)).0) $
            owned ! versions.the_row (Is versions.the_row) (struct.makes versions.the_type version-laws.the_plain 𝓛)
            (stored k v r) _ (locals.stored_is was_local left_local v r u k holds was is) $
            move ! (4 ∷ 0 ∷ 5 ∷ 6 ∷ 7 ∷ []) $ closes ! tt versions.the_row (stored k v r) (record_value (stored k v r) ∷ []) b o $
            -- has: the three of the borrow; the table's token, its last list and borrow, nothing; the locals from 6
            -- return
            returns ! (look ! 20 refl) $ forget ! 6 refl $ forget ! 8 refl $ forget ! 10 refl $ forget ! 12 refl $
            forget ! 14 refl $ forget ! 16 refl $ forget ! 18 refl $ forget ! 20 refl $
            move ! (20 ∷ 21 ∷ []) $ free1 ! $ move ! (18 ∷ 19 ∷ []) $ free1 ! $ move ! (16 ∷ 17 ∷ []) $ free1 ! $ move ! (14 ∷ 15 ∷ []) $ free1 ! $
            move ! (12 ∷ 13 ∷ []) $ free1 ! $ move ! (10 ∷ 11 ∷ []) $ free1 ! $ move ! (8 ∷ 9 ∷ []) $ free1 ! $ move ! (6 ∷ 7 ∷ []) $ free1 ! $
            free0 ! $ keep ! (0 ∷ 1 ∷ 2 ∷ 3 ∷ 4 ∷ []) $
            -- the contract, at the answer that g gives, the table that it leaves and the record that is stored
            suffices ! _ (ends_at 𝓛 lends.ended stayed lent (((κ, (κ', tt)), (q, (q', tt)), tt, lent_both, pointers), tt)
            (answer_value r.answer) r.answer (ws.0, (stored k v r, tt)) (same, (tt, tt))) $ says ! (meets t v r ws.0 turns) $
            move ! (3 ∷ []) $ split ! $ move ! (4 ∷ 1 ∷ []) $ join ! $ move ! (1 ∷ 0 ∷ []) $ join ! $ frame ! $
            feq_i ! (List Val) (vptr b o ∷ []) (vptr b o ∷ []) refl $ fjoin3 ! $ nothing ! $ move ! (1 ∷ 0 ∷ []) $ fjoin ! $
            move ! (1 ∷ 0 ∷ []) $ fjoin ! $
            owned ! answer_row (Is answer_row) (enum.makes answer_type answer_plain 𝓛)
            r.answer _ (answer_is r u is) $
            move ! (1 ∷ 0 ∷ []) $ done !))))))))))))))))

      walks : Walks 𝓛 lends.ended stayed (WpFn 𝓤 H C Λ (code g k)) lent
      walks =
          walked 𝓛 lends.ended stayed lent (WpFn 𝓤 H C Λ (code g k))
          (λ κs. (mut_slice_vals, (mut_vals, tt)))
          (λ κs. (mut_slice_Tells (named 0) κs.0 i64, (mut_Tells (named 1) κs.1.0 versions.the_row, tt)))
          (λ κs qs bounds a _ are. via 𝓤 _ (fst∗ 𝓤 _ (emp 𝓤))
          (walk κs.0 κs.1.0 qs.0 qs.1.0 a.1.0.ref_ptr.0 a.1.0.ref_ptr.1 a.1.0.ghost_name a.1.0.now
          a.0.ref_ptr.0 a.0.ref_ptr.1 a.0.ghost_name a.0.now are.0.0.1))

-- ---- from g's routine to the function f that has the code
pub lent_meets : {M : Type 1} (Turns : List ℤ → VersionRecord → Turned → List ℤ → Type 0)
    (𝓤 : Ura M) (𝓛 : Logic 𝓤) (𝓜 : Model 𝓤 𝓛.H) (𝓡 : Running 𝓤 𝓛.H 𝓜) (env : Env) (f g : Callee) (r : Routine)
    → env g ≡ r → (k : ℕ) → holds_record k ≡ true → Closed 𝓤 𝓛.H (tables 𝓤 𝓛.H 𝓜 𝓡 env).C (tables 𝓤 𝓛.H 𝓜 𝓡 env).Λ f (code g k)
    → ((t : List ℤ) (v : VersionRecord) (x : Turned) (t' : List ℤ) → Turns t v x t' → Turns t v (turned_to x.answer (stored k v x)) t')
    → Triple 𝓤 (𝓡.run r) (ByValue Turns 𝓤 𝓛) → Triple 𝓤 ((tables 𝓤 𝓛.H 𝓜 𝓡 env).C f) (Lent Turns 𝓤 𝓛)
unfolding tables_of
lent_meets Turns 𝓤 𝓛 𝓜 𝓡 env f g r calls k holds closed meets met =
    let 𝓣 = tables_of 𝓤 𝓛.H 𝓜 (tables 𝓤 𝓛.H 𝓜 𝓡 env) in
    let known = cited 𝓤 𝓛.H (ByValue Turns 𝓤 𝓛) 𝓜 𝓡 env g r calls met in
    entered 𝓤 𝓛.H (Lent Turns 𝓤 𝓛) 𝓣.C 𝓣.Λ f (code g k) closed
    (walk_Meets 𝓛 lends.ended stayed (goes Turns 𝓤 𝓛) (lent Turns 𝓤 𝓛) (WpFn 𝓤 𝓛.H 𝓣.C 𝓣.Λ (code g k))
    (WpFn-mono 𝓤 𝓛.H 𝓛.laws 𝓣 (code g k)) (walks Turns 𝓤 𝓛 𝓣.C 𝓣.Λ (fm_of 𝓤 𝓛.H 𝓛.laws 𝓣) g known k holds meets))
