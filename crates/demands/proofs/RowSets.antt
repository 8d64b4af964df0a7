-- Demand 3 with row sets as any predicates: the smallest among the tests is the smallest among all sets, in every database. Assumes nothing.
use Prim.Native.Nat.{ℕ, zero, suc, ◌<◌}
use native.Mathlib.Omega.{arith}
use mathlib.Core.Path.{◌≡◌, refl}
use mathlib.Core.Bool.{true, false}
use mathlib.Core.List.{List}
use Rattle.finite.proofs.Bools.{clash}
use lib.ListN.{take}
use Rattle.model.specs.Cell.{Cell}
use Rattle.model.specs.Scheme.{Column, Scheme}
use Rattle.model.specs.Database.{Database}
use Rattle.model.specs.Cache.{RowSet, Complete, Holds, Smallest, Alike}
use Rattle.model.specs.Rounds.{level, load}
use Rattle.model.specs.Holding.{Holding, held_in, wanted}
use Rattle.model.specs.Runs.{marked, cached_for, reload_levels}
use Rattle.model.specs.Answers.{Answer, Yes}
use Rattle.model.specs.Demand.{Demand3}
use Rattle.model.proofs.Closed.{Closed}
use Rattle.model.proofs.RoundsLaws.{reached-level, Distances, load-distances}
use Rattle.model.proofs.RunLaws.{held-wants, held-smallest}
use Rattle.state.specs.Meaning.{scheme_of}
use Rattle.state.specs.Lent.{State}
use Rattle.lawful.proofs.RowsLaws.{Stored}
use Rattle.format.specs.Reading.{Draft, cells_after}
use Rattle.format.specs.Reading.DesignRead.{accepted}
use Rattle.format.proofs.Small.{Small}
use Rattle.run.specs.Moments.{Action, Moment, tables_at}
use Rattle.run.specs.Runs.{left_from, rooms_in, moment_with, moment_at}
use Rattle.script.specs.JustRead.{Buffers, reading_of, just_read}
use Rattle.demands.specs.Actions.{state_after_all}
use Rattle.demands.specs.RowSets.{MeetsAll, SmallestOfAll, AlikeOfAll, Demand3OfAll}
use Rattle.demands.specs.Settled.{Settled}
use Rattle.demands.proofs.Runs.{RowsGiven, calls-hold, points-hold}

module _ (S : Scheme) (D : Database) (h : Holding) where
  -- the rows of the load are in every such set, round by round
  module _ (P : ℕ → Type 0) (m : MeetsAll S D (held_in S h) P) where
    abbrev L : List ℕ
    L = load S D (λ _. false) (wanted S D h)

    closed : Closed S D (λ _. false)
    closed = record { rows = λ r e. clash e refl; demanded = λ s r e q. clash e refl }

    distances : Distances S D (λ _. false) (wanted S D h) L
    distances = load-distances S D (λ _. false) (wanted S D h) closed (λ r e. ((held-wants S D h).wanted r e).has.live)

    in-round : (n r : ℕ) → level L r ≡ suc (suc n) → P r
    in-round zero r e = let w = (held-wants S D h).wanted r (distances.is-seed r e) in m.values w.column w.value w.held r w.has
    in-round (suc n) r e =
        let w = distances.link r n e in
        m.constraints w.2.number w.2.exists w.0 w.2.value (in-round n w.0 w.1) w.2.source r w.2.target

    in-level : (n r : ℕ) → level L r ≡ n → 0 < n → P r
    in-level zero r e l = absurd (omega arith)
    in-level (suc zero) r e l = clash (distances.is-old r e) refl
    in-level (suc (suc n)) r e l = in-round n r e

    loaded-in : (r : ℕ) → cached_for S D h r ≡ true → P r
    unfolding reload_levels
    loaded-in r e = in-level (level L r) r refl (reached-level L r e)

  -- THEOREM. 01: "A row set is any set of backend rows". What is smallest among the tests is smallest among all sets, and the other way round, in any database
  pub smallest-of-all : (X : RowSet) → Smallest S D (held_in S h) X → SmallestOfAll S D (held_in S h) X
  smallest-of-all X s =
      record { meets = s.meets; least = λ P m r e. loaded-in P m r (s.least (cached_for S D h) (held-smallest S D h).meets r e) }

  pub of-all-smallest : (X : RowSet) → SmallestOfAll S D (held_in S h) X → Smallest S D (held_in S h) X
  unfolding Complete Holds
  of-all-smallest X s =
      record {
        meets = s.meets;
        least = λ Y m. s.least (λ r. Y r ≡ true)
            (record { rows = m.rows; constraints = λ i l a v y f r g. m.constraints i l a v y f r g; values = λ k v e r g. m.values k v e r g });
      }

-- the databases are the same
alike-of-all : (S : Scheme) (D : Database) (h : Holding) (X : RowSet) (E : Database) → Alike S D (held_in S h) X E → AlikeOfAll S D (held_in S h) X E
alike-of-all S D h X E a = record { lawful = a.lawful; keeps = a.keeps; smallest = smallest-of-all S E h X a.smallest }

of-all-alike : (S : Scheme) (D : Database) (h : Holding) (X : RowSet) (E : Database) → AlikeOfAll S D (held_in S h) X E → Alike S D (held_in S h) X E
of-all-alike S D h X E a = record { lawful = a.lawful; keeps = a.keeps; smallest = of-all-smallest S E h X a.smallest }

demand3-of-all : (S : Scheme) (D : Database) (h : Holding) (X : RowSet) → Demand3 S D h X → Demand3OfAll S D h X
demand3-of-all S D h X d =
    record {
      smallest = smallest-of-all S D h X d.smallest;
      yes = λ k c v f n y E a. (d.probes k c v f n).0 y E (of-all-alike S D h X E a);
      only = λ k c v f n g. (d.probes k c v f n).1 (λ E a. g E (alike-of-all S D h X E a));
    }

-- A design just read. A script is bytes, a number is below 2 ^ 32 and an issue below 2 ^ 8, as their types say.
module _ (script : List ℕ) (small : Small script) (b : Buffers) (p : Draft) (i : ℕ) (read : reading_of script b ≡ accepted p i)
    (stored : Stored (cells_after (accepted p i) b.cells)) where
  -- THEOREM. Demand 3 with row sets as any sets: "The cached rows are the smallest row set in which all constraints hold and all held values are complete". Behind any list
  -- of calls
  pub calls-of-all : (acts : List Action) → RowsGiven acts →
      Demand3OfAll (scheme_of p.design) (tables_at (moment_with p acts)) (moment_with p acts).held
      (marked (take 512 (state_after_all (just_read (accepted p i) b) acts).marks))
  calls-of-all acts g = demand3-of-all _ _ _ _ (calls-hold script small b p i read stored acts g).demand3

  -- THEOREM: and at every point of a script's run
  pub points-of-all : (n : ℕ) →
      Demand3OfAll (scheme_of p.design) (tables_at (moment_at n script p (rooms_in b) i)) (moment_at n script p (rooms_in b) i).held
      (marked (take 512 (left_from n script (just_read (accepted p i) b) b.outputs i).state.marks))
  points-of-all n = demand3-of-all _ _ _ _ ((points-hold script small b p i read stored).point n).demand3

-- THEOREM: and of the answer to a probe (`Settled`, of which Probes.antt speaks at every moment of a run)
pub settled-of-all : (p : Draft) (m : Moment) (e : State) (k : Column) (v : Cell) (x : Answer) → Settled p m e k v x →
    (Yes x → (E : Database) → AlikeOfAll (scheme_of p.design) (tables_at m) (held_in (scheme_of p.design) m.held) (marked (take 512 e.marks)) E →
    Complete E (marked (take 512 e.marks)) k v) ×
    (((E : Database) → AlikeOfAll (scheme_of p.design) (tables_at m) (held_in (scheme_of p.design) m.held) (marked (take 512 e.marks)) E →
    Complete E (marked (take 512 e.marks)) k v) → Yes x)
settled-of-all p m e k v x s = (
  λ y E a. s.exact.0 y E (of-all-alike _ _ m.held _ E a),
  λ g. s.exact.1 (λ E a. g E (alike-of-all _ _ m.held _ E a)),
)
