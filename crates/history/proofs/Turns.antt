-- Begin, commit and roll back are steps. Begin and commit write no slot: at a begin the run's number shows what current
-- shows, whose rows are the current database, which is the running one; at a commit that number becomes current. A roll back
-- leaves what the open versions show, and the run has begun. Assumes nothing.
use Rattle.std.specs.Prelude.{◌≡◌, refl, true, ℕ, suc, eqb, ℤ}
use Rattle.std.proofs.Common.{arith, eqb-true}
use Rattle.std.proofs.lemmas.Bool.{eqb-false}
use Rattle.laws.specs.TestLaws.{by_test, clash}
use Rattle.history.specs.Followed.{Followed, current, Committed, Gone, run_begun, run_committed, run_rolled_back}
use Rattle.history.proofs.Rows.{rows_same}
use Rattle.history.proofs.Views.{View}
use Rattle.history.proofs.Growth.{current_committed, standing_grows, begin_grows, counted, commit_grows, last_database}
use Rattle.history.proofs.Invariant.{Inv, current_open, Step, rows_stay}

module _ {n m : ℕ} {T : View} {g : Followed} (i : Inv n m T g) where
  pub begin_step : ((k : ℕ) → T.shown (suc (current g)) k ≡ T.shown (current g) k) → Step n m T g T (run_begun g)
  begin_step above = record {
    inv = record {
      many = i.many;
      distinct = i.distinct;
      low = omega arith;
      high = omega arith;
      in_run = λ a. refl;
      settled = λ no_run. clash refl no_run;
      rows = λ s c kept. i.rows s (record { from = c.from; to = c.to }) (λ h. kept (omega (arith, i.high)));
      top = λ a. rw (rows_same (T.shown (current g)) (T.shown (suc (current g))) m (λ j l. above j))
          (i.rows (current g) (current_committed g) (current_open i));
    };
    grows = begin_grows g i.high;
    stays = λ s c kept k. refl;
  }

  pub commit_step : g.active ≡ true → Step n m T g T (run_committed g)
  commit_step a = record {
    inv = record {
      many = i.many;
      distinct = i.distinct;
      low = omega (arith, counted g, i.in_run a);
      high = omega (arith, counted g, i.in_run a);
      in_run = λ b. clash b refl;
      settled = λ idle. refl;
      rows = λ s c kept. by_test (eqb s (suc (current g)))
          (λ y. let e : s ≡ suc (current g) = eqb-true s (suc (current g)) y in rw (e, last_database g) (i.top a))
          (λ ne. let d : Committed g s = record { from = c.from; to = omega (arith, c.to, counted g, eqb-false s (suc (current g)) ne) } in
          rw ((commit_grows g).databases s d) (i.rows s d kept));
      top = λ b. clash b refl;
    };
    grows = commit_grows g;
    stays = λ s c kept k. refl;
  }

  -- ---- a roll back: each slot shows at each open version what it showed, and has no key that it had not
  pub undo_step : {T' : View} → ((j : ℕ) (p q : ℤ) → T'.has j p q ≡ true → T.has j p q ≡ true)
      → ((s : ℕ) → Committed g s → (Gone n g s → ⊥) → (k : ℕ) → T'.shown s k ≡ T.shown s k) → Step n m T g T' (run_rolled_back g)
  undo_step {T'} fewer same = record {
    inv = record {
      many = i.many;
      distinct = record { slot = λ j l p q hj hl. i.distinct.slot j l p q (fewer j p q hj) (fewer l p q hl) };
      low = i.low;
      high = i.high;
      in_run = λ a. clash a refl;
      settled = λ idle. refl;
      rows = λ s c. rows_stay i T' same s (record { from = c.from; to = c.to });
      top = λ a. clash a refl;
    };
    grows = standing_grows g _ _;
    stays = same;
  }
