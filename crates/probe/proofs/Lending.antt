-- A record of one's own that is lent: code that keeps a record in a local, lends it to a function g, and returns g's answer beside
-- the record that g leaves. Nothing else of g is known than `Turns`, what its contract says of the record lent, of its answer and of
-- the record left; `lending_meets` shows once, over the name of g and over `Turns`, that the code does by value what g does on a lent
-- record. The argument is a walk of the code: the local is lent for a lifetime of the call, g is called at the reference, the
-- lifetime ends and the record comes back, and both are put into what is returned. The check shows the same of `lending`, which `begun`
-- and `committed` go through, with no file, and no proof of this crate cites the walk. Assumes nothing.
use mathlib.Core.Path.{◌≡◌, refl, ap}
use mathlib.Core.List.{[], ◌∷◌, List}
use Prim.Native.Nat.{ℕ}
use seplogic.Ra.Ura.{Ura}
use base.Fraction.{full_share}
use mir.Syntax.{Callee, Fn, local, value_local, memory_slot, ty_ref, named, erased, mut, place, copy, rv_opd, addr_of, aggregate, assign, call, seq, return}
use mir.Val.{Val, vptr}
use base.Logic.{SProp, ent, emp, via, fst∗, id⊢}
use base.Fml.{GName, ftrue, fsep, flft, fat, flent}
use prog.Model.{Model}
use prog.Routine.{Routine, Env}
use prog.Wp.{Calls, Loops, WpFn, Closed}
use types.Logic.{Logic}
use contract.Monad.{fact}
use contract.Running.{Running, tables, tables_of}
use types.Kit.{Item, ‵, raw, ◌⊛◌, some, later, ◌$◌, ◌∵◌, !, qed, move, keep, drop, use1, use3, split, join, pick, rewrite}
use types.Kit.{fsplit, fjoin, fpick, fpack, suffices, await, done}
use types.Run.{look, init, forget, stop, from, load, addr, of_opd, and_then, no_more, assigns, land, returns}
use types.Run.{enter, alloc1, alloc0, params1, pass1, pass0, free1, free0}
use types.Part.{agg}
use types.SemTy.{Body}
use types.Tokens.{lft_new, lft_end}
use sound.WpLaws.{FmC, fm_of, WpFn-mono}
use denote.RattleType.{owns}
use denote.Laws.{Is, Lawful, shows}
use denote.Memory.{pointee, mem, cell_at, part_of}
use denote.Ref.{MutBor, MutRef}
use denote.Lend.{lends_ref, ref_back}
use denote.Steps.{only, owned, peeks, heard, nothing}
use denote.Struct.Steps.{spelt}
use denote.Struct.Laws as struct
use denote.Enum.Laws as enum
use denote.Triple.Entry.{on_entry}
use denote.Triple.Spec.{triple_of}
use denote.Triple.Statement.{Contract, Triple}
use denote.Triple.Call.{calls_at}
use denote.Triple.Clauses.{Clauses, Lasts, closing, lasts}
use denote.Triple.Table.{entered, cited}
use denote.Triple.Walked.{says, Stays, stay_none, walk_of, Goes-none, Walks, ends_at, walked, walk_Meets}
use denote.Exit.{yes}
use Rattle.std.specs.Prelude.{Result, ℤ}
use Rattle.refusals.specs.declared.Refusal.{Refusal}
use Rattle.versions.specs.declared.VersionRecord.{VersionRecord}
use Rattle.versions_runs.specs.declared.Turned.{Turned}
use Rattle.versions_runs.specs.Runs.{turned_to}
use Rattle.versions.specs.contracts.VersionRecord as versions
use Rattle.versions.proofs.VersionRecord.TheLaws as version-laws
use Rattle.versions_runs.specs.contracts.Turned as turned
use Rattle.versions_runs.proofs.Turned.TheLaws as turned-laws
use Rattle.versions_runs.proofs.LentRecord.{answer_type, answer_row, answer_mir, answer_laws, record_value, answer_value}
use Rattle.versions_runs.specs.contracts.begin as begin
use Rattle.probe.specs.contracts.lent.begun as begun

-- ---- the code: local 0 is what is returned, 1 the record passed, 2 the one that is lent, 3 the answer, 4 the reference, 5 the record left
abbrev code : Callee → Fn
code g = record {
  lifetimes = 0;
  outlives = [];
  ty_params = [];
  givens = 0;
  params = 1;
  locals = local turned-laws.mir value_local
      ∷ local version-laws.mir value_local
      ∷ local version-laws.mir memory_slot
      ∷ local answer_mir value_local
      ∷ local (ty_ref erased mut (pointee (versions.the_row).written)) value_local
      ∷ local version-laws.mir value_local
      ∷ [];
  body = seq (assign (place 2 []) (rv_opd (copy (place 1 []))))
      (seq (assign (place 4 []) (addr_of (place 2 [])))
      (seq (call g (copy (place 4 []) ∷ []) (place 3 []))
      (seq (assign (place 5 []) (rv_opd (copy (place 2 []))))
      (seq (assign (place 0 []) (aggregate (copy (place 3 []) ∷ copy (place 5 []) ∷ []))) return))));
}

abbrev turned_value : Turned → Val
turned_value = struct.val turned.the_type turned-laws.the_laws

turned_is : (r : Result ℤ Refusal) (v : VersionRecord) → Is answer_row r (answer_value r ∷ []) → Is versions.the_row v (record_value v ∷ [])
    → Is turned.the_row (turned_to r v) (turned_value (turned_to r v) ∷ [])
turned_is r v answer left = struct.owes turned.the_type turned-laws.the_laws (turned_to r v) (answer, (left, tt))

abbrev stayed : Stays (begun.ended).signature.params (begun.ended).kept
stayed = (stay_none (λ _. versions.the_row) yes, tt)

module _ {M : Type 1} (Turns : VersionRecord → Turned → Type 0) (𝓤 : Ura M) (𝓛 : Logic 𝓤) where
  open 𝓛 use {H}

  abbrev by_value : Clauses 𝓤 begun.ended
  by_value κs a = record { ghost = Unit {0}; requires = λ _. emp 𝓤; ensures = λ _ r _. fact 𝓤 (Turns a.0 r) }

  abbrev lent : Clauses 𝓤 begin.ended
  lent κs a = record { ghost = Unit {0}; requires = λ _. emp 𝓤; ensures = λ _ r e. fact 𝓤 (Turns a.0.now (turned_to r e.0.now)) }

  abbrev ByValue : Contract 𝓤
  ByValue = triple_of 𝓛 begun.signature (closing 𝓛 begun.ended by_value)

  abbrev Lent : Contract 𝓤
  Lent = triple_of 𝓛 begin.signature (closing 𝓛 begin.ended lent)

  module _ where
    abbrev record_lawful : Lawful 𝓛 versions.the_row
    record_lawful = struct.lawful versions.the_type version-laws.the_laws 𝓛

    abbrev answer_lawful : Lawful 𝓛 answer_row
    answer_lawful = enum.lawful answer_type answer_laws 𝓛 tt

    abbrev turned_lawful : Lawful 𝓛 turned.the_row
    turned_lawful = struct.lawful turned.the_type turned-laws.the_laws 𝓛

    module _ (C : Calls 𝓤 H) (Λ : Loops 𝓤 H) (framed : FmC 𝓤 H 𝓛.laws C) (g : Callee) (known : Triple 𝓤 (C g) Lent) (v : VersionRecord) where
      abbrev Post : Val → SProp 𝓤
      Post = (walk_of 𝓛 begun.ended stayed by_value).post ((tt, tt, tt, (v, tt), (record_value v ∷ [], tt)), tt)

      -- the reference, to the local at b and under the name γ, and what g is called at
      abbrev reference : ℕ → GName → MutBor VersionRecord × Unit {0}
      reference b γ = (record { ref_ptr = (b, 0); ghost_name = γ; now = v }, tt)

      abbrev to_g : ℕ → ℕ → GName → Lent.Ghost
      to_g ν b γ = (((ν ∷ [], tt), (full_share, tt), tt, reference b γ, (vptr b 0 ∷ [], tt)), tt)

      abbrev of_g : ℕ → ℕ → GName → Val → Result ℤ Refusal → Item 𝓤
      of_g ν b γ u r =
          ((‵ (flft (ν ∷ []) full_share) ⊛ ‵ ftrue) ⊛ ‵ (answer_row.own_val r (u ∷ [])))
          ⊛ some (λ (ws : Lasts begin.ended (ν ∷ [], tt) (reference b γ)). ‵ (lasts begin.ended (ν ∷ [], tt) (reference b γ) ws) ⊛ raw (fact 𝓤 (Turns v (turned_to r ws.0))))

      walk : Is versions.the_row v (record_value v ∷ []) → ent 𝓤 (on_entry 𝓛 begun.signature tt tt (v, tt) (record_value v ∷ [], tt)) (WpFn 𝓤 H C Λ (code g) (record_value v ∷ []) Post)
      unfolding part_of
      walk was =
          qed 𝓛 (‵ ftrue ∷ ‵ (owns (versions.the_row ∷ []) (v, tt) (record_value v ∷ [], tt)) ∷ []) ∵ drop ! $ drop ! $
          enter ! C Λ (code g) (record_value v ∷ []) _ $ alloc1 ! (λ _. alloc1 ! (λ _. alloc1 ! (λ lent_at. alloc1 ! (λ answer_at. alloc1 ! (λ _. alloc1 ! (λ _. alloc0 ! $
          params1 ! $ pass1 ! (init ! 8 refl (record_lawful.typed v _ was).0) $ pass0 ! $
          -- has: local 5 and what frees it, .., 0 likewise
          assigns ! (of_opd ! (load ! (from ! (stop !)) (look ! 8 refl))) (from ! (stop !)) (init ! 6 refl (record_lawful.typed v _ was).0) $
          assigns ! (addr ! (from ! (stop !))) (from ! (stop !)) (init ! 2 refl (tt, tt)) $
          -- local 2 is lent for a lifetime ν of the call
          move ! (6 ∷ []) $ use1 𝓛 (‵ (cell_at full_share (versions.the_row).mir (record_value v ∷ []) lent_at 0)) (𝓛.laws.at_raw full_share version-laws.mir lent_at 0 (record_value v)) $
          owned ! versions.the_row (Is versions.the_row) (struct.makes versions.the_type version-laws.the_plain 𝓛) v _ was $ move ! (1 ∷ 0 ∷ []) $ fjoin ! $
          fpack ! (List Val) (λ us. fsep (cell_at full_share (versions.the_row).mir us lent_at 0) ((versions.the_row).own_val v us)) (record_value v ∷ []) $
          lft_new ! tt (λ ν. move ! (1 ∷ []) $
          use1 𝓛 (later (some (λ (γ : GName). ‵ ((MutRef (named 0) (ν ∷ []) versions.the_row).own_val (record { ref_ptr = (lent_at, 0); ghost_name = γ; now = v }) (vptr lent_at 0 ∷ [])) ⊛ ‵ (flent (ν ∷ []) (Body (mem versions.the_row) lent_at 0 γ)))))
          (lends_ref 𝓛 versions.the_row (named 0) (ν ∷ []) v lent_at 0) $ await ! tt $ pick ! (λ γ. split ! $
          -- has: the reference, the lender's part, the token; the locals from 3, but for 2's cell
          nothing ! $ move ! (1 ∷ 0 ∷ []) $ join ! $ nothing ! $ move ! (3 ∷ 0 ∷ []) $ join ! $ join ! $ nothing ! $ move ! (1 ∷ 0 ∷ []) $ join ! $
          use1 𝓛 (raw (Lent.pre (to_g ν lent_at γ))) (id⊢ 𝓤 _) $
          calls_at ! framed Lent known (to_g ν lent_at γ) (and_then ! (load ! (from ! (stop !)) (look ! 4 refl)) (no_more !)) (λ u.
          use1 𝓛 (later (some (of_g ν lent_at γ u))) (id⊢ 𝓤 _) $ await ! tt $ pick ! (λ r.
          split ! $ move ! (1 ∷ []) $ pick ! (λ ws. split ! $ move ! (1 ∷ []) $ heard ! (Turns v (turned_to r ws.0)) (λ turns. fsplit ! $ fsplit ! $ move ! (1 ∷ []) $ drop ! $ move ! (2 ∷ []) $ split ! $
          move ! (1 ∷ []) $ peeks ! answer_row (Is answer_row) (shows 𝓛 answer_row) r (u ∷ []) (λ is.
          land ! (from ! (stop !)) (init ! 9 refl (answer_lawful.typed r _ is).0) $
          rewrite ! 9 (λ (w : Val). ‵ (fat full_share answer_mir answer_at 0 w)) (ap only (enum.tells answer_type answer_laws r _ is)) refl $
          rewrite ! 0 (λ (ws : List Val). ‵ (answer_row.own_val r ws)) (enum.tells answer_type answer_laws r _ is) refl $
          peeks ! answer_row (Is answer_row) (shows 𝓛 answer_row) r (answer_value r ∷ []) (λ answer_is. drop ! $
          -- the lifetime ends, and the record comes back
          split ! $ lft_end ! tt $ move ! (0 ∷ 4 ∷ 2 ∷ []) $
          use3 𝓛 (later (‵ ((mem versions.the_row).own_at ws.0 lent_at 0))) (ref_back 𝓛 versions.the_row (ν ∷ []) γ ws.0 lent_at 0) $ await ! tt $ fpick ! (λ vs. fsplit ! $
          spelt ! versions.the_row (Is versions.the_row) (shows 𝓛 versions.the_row)
          (struct.vals versions.the_type version-laws.the_laws) (struct.tells versions.the_type version-laws.the_laws) full_share ws.0 vs lent_at 0 $
          move ! (1 ∷ []) $ peeks ! versions.the_row (Is versions.the_row) (shows 𝓛 versions.the_row) ws.0 (record_value ws.0 ∷ []) (λ left. drop ! $
          use1 𝓛 (‵ (fat full_share version-laws.mir lent_at 0 (record_value ws.0))) (𝓛.laws.raw_at full_share version-laws.mir lent_at 0 (record_value ws.0)) $
          -- has: local 2; nothing, twice; the locals from 3, but for 2's cell
          assigns ! (of_opd ! (load ! (from ! (stop !)) (look ! 0 refl))) (from ! (stop !)) (init ! 3 refl (record_lawful.typed ws.0 _ left).0) $
          assigns ! (agg ! (and_then ! (load ! (from ! (stop !)) (look ! 7 refl)) (and_then ! (load ! (from ! (stop !)) (look ! 3 refl)) (no_more !)))) (from ! (stop !))
          (init ! 12 refl (turned_lawful.typed (turned_to r ws.0) (turned_value (turned_to r ws.0) ∷ []) (turned_is r ws.0 answer_is left)).0) $
          returns ! (look ! 12 refl) $ forget ! 0 refl $ forget ! 3 refl $ forget ! 5 refl $ forget ! 7 refl $ forget ! 10 refl $ forget ! 12 refl $
          move ! (12 ∷ 13 ∷ []) $ free1 ! $ move ! (10 ∷ 11 ∷ []) $ free1 ! $ move ! (0 ∷ 9 ∷ []) $ free1 ! $ move ! (6 ∷ 7 ∷ []) $ free1 ! $ move ! (4 ∷ 5 ∷ []) $ free1 ! $ move ! (2 ∷ 3 ∷ []) $ free1 ! $ free0 ! $
          keep ! [] $ suffices ! _ (ends_at 𝓛 begun.ended stayed by_value ((tt, tt, tt, (v, tt), (record_value v ∷ [], tt)), tt)
          (turned_value (turned_to r ws.0)) (turned_to r ws.0) (tt, tt) (tt, tt)) $ says ! turns $
          owned ! turned.the_row (Is turned.the_row) (struct.makes turned.the_type turned-laws.the_plain 𝓛) (turned_to r ws.0) _ (turned_is r ws.0 answer_is left) $
          owned ! versions.the_row (Is versions.the_row) (struct.makes versions.the_type version-laws.the_plain 𝓛) v _ was $ nothing ! $ move ! (1 ∷ 0 ∷ []) $ fjoin ! $ nothing ! $ done !))))))))))))))))

    walks : (C : Calls 𝓤 H) (Λ : Loops 𝓤 H) (framed : FmC 𝓤 H 𝓛.laws C) (g : Callee) (known : Triple 𝓤 (C g) Lent) → Walks 𝓛 begun.ended stayed (WpFn 𝓤 H C Λ (code g)) by_value
    walks C Λ framed g known =
        walked 𝓛 begun.ended stayed by_value (WpFn 𝓤 H C Λ (code g))
        (λ κs. (struct.vals versions.the_type version-laws.the_laws, tt)) (λ κs. (struct.tells versions.the_type version-laws.the_laws, tt))
        (λ κs qs bounds a _ are. via 𝓤 _ (fst∗ 𝓤 _ (emp 𝓤)) (walk C Λ framed g known a.0 are.0))

-- ---- from g's routine to the function f that has the code
pub lending_meets : {M : Type 1} (Turns : VersionRecord → Turned → Type 0)
    (𝓤 : Ura M) (𝓛 : Logic 𝓤) (𝓜 : Model 𝓤 𝓛.H) (𝓡 : Running 𝓤 𝓛.H 𝓜) (env : Env) (f g : Callee) (r : Routine)
    → env g ≡ r → Closed 𝓤 𝓛.H (tables 𝓤 𝓛.H 𝓜 𝓡 env).C (tables 𝓤 𝓛.H 𝓜 𝓡 env).Λ f (code g)
    → Triple 𝓤 (𝓡.run r) (Lent Turns 𝓤 𝓛) → Triple 𝓤 ((tables 𝓤 𝓛.H 𝓜 𝓡 env).C f) (ByValue Turns 𝓤 𝓛)
unfolding tables_of
lending_meets Turns 𝓤 𝓛 𝓜 𝓡 env f g r calls closed met =
    let 𝓣 = tables_of 𝓤 𝓛.H 𝓜 (tables 𝓤 𝓛.H 𝓜 𝓡 env) in
    let known = cited 𝓤 𝓛.H (Lent Turns 𝓤 𝓛) 𝓜 𝓡 env g r calls met in
    entered 𝓤 𝓛.H (ByValue Turns 𝓤 𝓛) 𝓣.C 𝓣.Λ f (code g) closed
    (walk_Meets 𝓛 begun.ended stayed (Goes-none 𝓛 0 (λ _. versions.the_row) yes (λ κs x f. refl), tt) (by_value Turns 𝓤 𝓛) (WpFn 𝓤 𝓛.H 𝓣.C 𝓣.Λ (code g))
    (WpFn-mono 𝓤 𝓛.H 𝓛.laws 𝓣 (code g)) (walks Turns 𝓤 𝓛 𝓣.C 𝓣.Λ (fm_of 𝓤 𝓛.H 𝓛.laws 𝓣) g known))
