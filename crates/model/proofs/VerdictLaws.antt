-- The verdicts of `specs/Verdict.antt` are right. Where a column has the verdict `never`, every probe of it is sent, in every database, after every run. Where it has
-- another, a database of one row for each table, with one value in all columns, and one load show a yes. Assumes nothing.
use Prim.Native.Nat.{ℕ, ◌<◌}
use native.Mathlib.Omega.{arith}
use mathlib.Core.Path.{◌≡◌, refl, sym, ap, subst, ◌∙◌}
use mathlib.Core.Logic.{◌↔◌, ◌⊎◌, inl, inr, ⊎_elim}
use mathlib.Core.Bool.{Bool, true, false, not, cond, ◌&&◌, ◌||◌, and-eq-true_iff}
use mathlib.Core.List.{List, [], ◌∷◌}
use borrow.Author.Tests.{eqb-true, eq-eqb, ne_eqb, ltb-true, lt-ltb, le-ltb, le-leb, not-true}
use lib.Dec.{eqb, ltb, lit<}
use Rattle.finite.specs.Finite.{all}
use Rattle.finite.specs.Sameness.{listed}
use Rattle.finite.proofs.Bools.{both, clash, dec, refute, or_cases, or_left, or-second}
use Rattle.finite.proofs.Tables.{length-tab, tab-at}
use Rattle.finite.proofs.Search.{any-true, any_found, all-at, all_true}
use Rattle.model.specs.Cell.{Cell, Fits, numbered, blank, is_blank, equal}
use Rattle.model.specs.Scheme.{Column, same_column, Scheme, ColumnOf, candidate}
use Rattle.model.specs.Database.{Database, Has, Lawful}
use Rattle.model.specs.Cache.{RowSet, Complete, Holds, Meets, Smallest}
use Rattle.model.specs.Even.{Reaches, here, along, reaches}
use Rattle.model.specs.Probe as Probe
use Rattle.model.specs.Holding.{desks, own_among, Holding, nothing_held, with_pair, one, pairs_hold, held_in}
use Rattle.model.specs.Runs.{Operation, refer, taken, held_after, held_from, marked, Cache, empty_cache}
use Rattle.model.specs.Effects.{cache_from}
use Rattle.model.specs.Seeing.{OneColumn, SeeingEnough}
use Rattle.model.specs.Verdict.{Proper, fetches, can_cache, links_to, once_linked, once_unique, once_here, never, elsewhere_or, is_one_column}
use Rattle.model.proofs.CellLaws.{blank-fits, equal-self}
use Rattle.model.proofs.DatabaseLaws.{same-column, same-column-self}
use Rattle.model.proofs.ProbeLaws.{Seen-seen, demanded-Demanded, seen-Seen}
use Rattle.model.proofs.RangeLaws.{Rising, Every}
use Rattle.model.proofs.ReachLaws.{reach-join, reaches-Reaches, Reaches-reaches}
use Rattle.model.proofs.HoldingLaws.{HoldingFits, held-from, step-fit}
use Rattle.model.proofs.RangesFit.{RangesFit, ListsFit}
use Rattle.model.proofs.RunLaws.{Sound, empty-sound, run_sound}
use Rattle.model.proofs.Demand3.{run_holds}
use Rattle.model.proofs.SeeingLaws.{seeing-enough}

-- ---- which tables can have cached rows

-- a filling's table reaches it
record CanCache (S : Scheme) (t : ℕ) : Type 0 where
  filling : ℕ
  exists : filling < S.fillings
  way : Reaches S t (S.filling filling).column.table

can-says : (S : Scheme) (t : ℕ) → can_cache S t ≡ true → CanCache S t
unfolding can_cache
can-says S t e =
    let f = any_found S.fillings (λ f. reaches S (S.filling f).column.table t) e in
    record { filling = f.0; exists = f.1; way = reaches-Reaches S (S.filling f.0).column.table t f.2 }

module _ {S : Scheme} (proper : Proper S) where
  says-can : {t : ℕ} → CanCache S t → can_cache S t ≡ true
  unfolding can_cache
  says-can {t} c =
      any-true S.fillings (λ f. reaches S (S.filling f).column.table t) c.filling c.exists
      (Reaches-reaches S (λ i l. let a = (proper.target i l).table in let b = proper.tables in omega arith) (S.filling c.filling).column.table t c.way)

  module _ {D : Database} {h : Holding} (fits : HoldingFits S h) {X : RowSet} (m : Smallest S D (held_in S h) X) where
    -- THEOREM: a cached row is of a table that can have one
    pub cached-can : (r : ℕ) → X r ≡ true → can_cache S (D.table r) ≡ true
    unfolding Holds Complete
    cached-can r x = ((and-eq-true_iff (X r) _).0 (m.least (λ s. X s && can_cache S (D.table s)) meets r x)).1
      where
        part : (s : ℕ) → X s && can_cache S (D.table s) ≡ true → (X s ≡ true) × (can_cache S (D.table s) ≡ true)
        part s = (and-eq-true_iff (X s) (can_cache S (D.table s))).0

        step : (i s r : ℕ) (v : Cell) → i < S.constraints → can_cache S (D.table s) ≡ true → Has D (S.constraint i).source v s → Has D (S.constraint i).target v r →
            can_cache S (D.table r) ≡ true
        step i s r v l e g h' =
            let c = can-says S (D.table s) e in
            says-can (record { filling = c.filling; exists = c.exists; way = reach-join c.way (along i l g.table (here (sym h'.table))) })

        meets : Meets S D (held_in S h) (λ s. X s && can_cache S (D.table s))
        meets =
            record {
              rows = λ s e. m.meets.rows s (part s e).0;
              constraints = λ i l s v e g r h'. both (m.meets.constraints i l s v (part s e).0 g r h') (step i s r v l (part s e).1 g h');
              values = λ k v e r h'.
                  let f = held-from S h fits k v e in
                  both (m.meets.values k v e r h')
                  (says-can (record { filling = f.0; exists = f.1; way = here (ap (λ (j : Column). j.table) (same-column _ k f.2) ∙ sym h'.table) }));
            }

    -- THEOREM: where neither a load nor a cached row can make a value complete, every probe is sent
    pub never-sent : (k : Column) → never S k ≡ true → (v : Cell) → Probe.probe S D (held_in S h) X k v ≡ 0
    unfolding never once_here once_linked links_to once_unique fetches Probe.probe Probe.uniquely_seen
    never-sent k e v = rw (held, demanded, unique)
      where
        q : (not (fetches S k) ≡ true) × (not (once_here S k) ≡ true)
        q = (and-eq-true_iff (not (fetches S k)) _).0 e

        neither : (a b : Bool) → a || b ≡ false → (a ≡ false) × (b ≡ false)
        neither true b x = clash refl x
        neither false b x = (refl, x)

        once : (once_linked S k ≡ false) × (once_unique S k ≡ false)
        once = neither (once_linked S k) (once_unique S k) (not-true (once_here S k) q.1)

        held : held_in S h k v ≡ false
        held = refute (held_in S h k v) (λ x. let f = held-from S h fits k v x in clash (any-true S.fillings (λ g. same_column (S.filling g).column k) f.0 f.1 f.2) (not-true (fetches S k) q.0))

        demanded : Probe.demanded S D X k v ≡ false
        demanded = refute (Probe.demanded S D X k v) (λ x.
            let d = demanded-Demanded S D X k v x in
            clash
            (any-true S.constraints (links_to S k) d.number d.exists
            (both (ap (λ (j : Column). same_column j k) d.ends ∙ same-column-self k)
            (sym (ap (can_cache S) d.source.has.table) ∙ cached-can d.source.row d.source.cached)))
            once.0)

        unique : S.unique k && Probe.seen D X k v ≡ false
        unique = refute (S.unique k && Probe.seen D X k v) (λ x.
            let a = (and-eq-true_iff (S.unique k) _).0 x in
            let s = seen-Seen D X k v a.1 in
            clash (both a.0 (sym (ap (can_cache S) s.has.table) ∙ cached-can s.row s.cached)) once.1)

-- ---- after every run

-- nothing held fits
none-lists : (S : Scheme) → ListsFit S nothing_held.ranges
none-lists S =
    record {
      count = length-tab desks (λ _. []);
      lists = λ d l. subst (RangesFit S) (sym (tab-at [] desks (λ _. []) d l)) (record { few = omega arith; each = Every.none; rising = Rising.none });
    }

none-fit : (S : Scheme) → HoldingFits S nothing_held
unfolding own_among
none-fit S =
    record {
      named = omega arith;
      values = record {
        desk = λ i l. absurd (omega arith);
        few = λ d l. omega arith;
        filling = λ i l. absurd (omega arith);
        value = λ i l. absurd (omega arith);
        once = λ i j l m. absurd (omega arith);
      };
      ranges = none-lists S;
    }

run-fit : (S : Scheme) (D : Database) (h : Holding) (os : List Operation) → HoldingFits S h → HoldingFits S (held_from S D h os)
unfolding held_from
run-fit S D h [] f = f
run-fit S D h (o ∷ os) f = run-fit S D (held_after S D h o) os (step-fit S D h o f)

-- the cache after a run from the empty one
abbrev pub ran : Scheme → Database → List Operation → Cache
ran S D os = cache_from S D (empty_cache D) os

-- the probe then
abbrev pub probe_then : Scheme → Database → List Operation → Column → Cell → ℕ
probe_then S D os k v = Probe.probe S D (held_in S (ran S D os).held) (marked (ran S D os).marks) k v

ran-fit : (S : Scheme) (D : Database) (os : List Operation) → HoldingFits S (ran S D os).held
ran-fit S D os = subst (HoldingFits S) (sym (run_holds S D os)) (run-fit S D nothing_held os (none-fit S))

ran-sound : (S : Scheme) (D : Database) (os : List Operation) → Sound S D (ran S D os)
ran-sound S D os = run_sound (empty_cache D) os (empty-sound S D)

-- THEOREM: after every run in every database a probe of such a column is sent
pub never-sent-after : {S : Scheme} → Proper S → (k : Column) → never S k ≡ true → (D : Database) (os : List Operation) (v : Cell) → probe_then S D os k v ≡ 0
never-sent-after {S} proper k e D os v = never-sent proper (ran-fit S D os) (ran-sound S D os) k e v

-- ---- a database that shows a yes

-- one row for each table, numbered as it is, with w in all columns
module _ (S : Scheme) (w : Cell) where
  uniform : Database
  uniform =
      record {
        size = S.tables;
        live = λ r. ltb r S.tables;
        table = λ r. r;
        cell = λ r c. cond (ltb c (S.columns r)) w blank;
        finite = λ r e. ltb-true r S.tables e;
      }

  uniform-lawful : Fits w → Lawful S uniform
  unfolding uniform
  uniform-lawful f =
      record {
        cells = λ r c l. cell (ltb c (S.columns r));
        tables = λ r l. ltb-true r S.tables l;
        blanks = λ r c l h. rw (le-ltb c (S.columns r) h);
        unique = λ k v r s u g h. g.table ∙ sym h.table;
      }
    where
      cell : (b : Bool) → Fits (cond b w blank)
      cell true = f
      cell false = blank-fits

  uniform-has : is_blank w ≡ false → (k : Column) → ColumnOf S k → Has uniform k w k.table
  unfolding uniform
  uniform-has n k c =
      record {
        live = lt-ltb _ _ c.table;
        table = refl;
        value = ap (λ (b : Bool). equal (cond b w blank) w) (lt-ltb _ _ c.place) ∙ equal-self w n;
      }

module _ {S : Scheme} (proper : Proper S) (f : ℕ) (below : f < S.fillings) where
  -- the lowest candidate
  w : Cell
  w = numbered (S.filling f).low

  U : Database
  U = uniform S w

  w_fits : Fits w
  unfolding w
  w_fits =
      record {
        number = let a = proper.high f below in let b = proper.stored f below in omega arith;
        issue = lit< tt;
        full = λ e. refl;
      }

  w-full : is_blank w ≡ false
  unfolding w is_blank
  w-full = rw (ne_eqb (S.filling f).low 0 (λ e. let a = proper.low f below in omega arith))

  -- one load of it
  load : List Operation
  load = refer (record { filling = f; value = w }) ∷ []

  c : Cache
  c = ran S U load

  -- it is taken, and held from then on
  is-taken : taken S nothing_held (record { filling = f; value = w }) ≡ true
  unfolding taken listed own_among candidate w
  is-taken =
      both (lt-ltb f S.fillings below)
      (both (both (le-leb (S.filling f).low (S.filling f).low (omega arith)) (le-leb _ _ (proper.high f below))) (lt-ltb 0 16 (omega arith)))

  is_held : held_in S (with_pair nothing_held (record { filling = f; value = w })) (S.filling f).column w ≡ true
  unfolding pairs_hold one
  is_held =
      sym (or_left ((same_column (S.filling f).column (S.filling f).column && equal w w) || false) _
      (sym (or_left (same_column (S.filling f).column (S.filling f).column && equal w w) false (both (same-column-self (S.filling f).column) (equal-self w w-full)))))

  held : held_in S c.held (S.filling f).column w ≡ true
  unfolding c load held_from held_after
  held =
      ap (λ (h : Holding). held_in S h (S.filling f).column w)
      (run_holds S U load ∙ ap (λ (b : Bool). cond b (with_pair nothing_held (record { filling = f; value = w })) nothing_held) is-taken) ∙ is_held

  sound : Sound S U c
  unfolding c
  sound = ran-sound S U load

  row : (k : Column) → ColumnOf S k → Has U k w k.table
  unfolding U
  row = uniform-has S w w-full

  -- the row of every table that the filling's table reaches is cached
  start : marked c.marks (S.filling f).column.table ≡ true
  unfolding Complete
  start = sound.meets.values (S.filling f).column w held (S.filling f).column.table (row (S.filling f).column (proper.filling f below))

  reached : {u t : ℕ} → Reaches S u t → marked c.marks t ≡ true → marked c.marks u ≡ true
  unfolding Holds Complete
  reached (here e) x = subst (λ (n : ℕ). marked c.marks n ≡ true) e x
  reached (along i l e p) x =
      reached p
      (sound.meets.constraints i l (S.constraint i).source.table w (subst (λ (n : ℕ). marked c.marks n ≡ true) e x) (row (S.constraint i).source (proper.source i l))
      (S.constraint i).target.table (row (S.constraint i).target (proper.target i l)))

  sees : (k : Column) → ColumnOf S k → Reaches S k.table (S.filling f).column.table → Probe.seen U (marked c.marks) k w ≡ true
  sees k col way = Seen-seen (record { row = k.table; cached = reached way start; has = row k col })

  linked : (i : ℕ) → i < S.constraints → (k : Column) → same_column (S.constraint i).target k ≡ true →
      Reaches S (S.constraint i).source.table (S.filling f).column.table → Probe.demanded S U (marked c.marks) k w ≡ true
  unfolding Probe.demanded
  linked i l k e way =
      any-true S.constraints (λ j. same_column (S.constraint j).target k && Probe.seen U (marked c.marks) (S.constraint j).source w) i l
      (both e (sees (S.constraint i).source (proper.source i l) way))

-- a run in a lawful database, and a value
pub record Shown (S : Scheme) : Type 0 where
  pub database : Database
  pub lawful : Lawful S database
  pub operations : List Operation
  pub value : Cell
  pub stored : Fits value
  pub full : is_blank value ≡ false

-- what the probe reads after it
abbrev pub cached_then : {S : Scheme} → Shown S → RowSet
cached_then {S} s = marked (ran S s.database s.operations).marks

module _ {S : Scheme} (proper : Proper S) where
  shown_by : (f : ℕ) → f < S.fillings → Shown S
  shown_by f l =
      record {
        database = U proper f l;
        lawful = unfold U in uniform-lawful S (w proper f l) (w_fits proper f l);
        operations = load proper f l;
        value = w proper f l;
        stored = w_fits proper f l;
        full = w-full proper f l;
      }

  -- THEOREM: where a filling has the column there is a run after which a probe has ground 1
  pub fetches-yes : (k : Column) → fetches S k ≡ true → (s : Shown S) × (probe_then S s.database s.operations k s.value ≡ 1)
  unfolding fetches Probe.probe shown_by c
  fetches-yes k e =
      let q = any_found S.fillings (λ f. same_column (S.filling f).column k) e in
      let h = subst (λ (j : Column). held_in S (c proper q.0 q.1).held j (w proper q.0 q.1) ≡ true) (same-column _ k q.2) (held proper q.0 q.1) in
      (shown_by q.0 q.1, rw h)

  -- THEOREM: where a constraint ends there from a table that can have cached rows, one after which ground 2 applies
  pub linked-yes : (k : Column) → once_linked S k ≡ true → (s : Shown S) × (Probe.demanded S s.database (cached_then s) k s.value ≡ true)
  unfolding once_linked links_to shown_by c
  linked-yes k e =
      let q = any_found S.constraints (links_to S k) e in
      let p = (and-eq-true_iff (same_column (S.constraint q.0).target k) _).0 q.2 in
      let can = can-says S (S.constraint q.0).source.table p.1 in
      (shown_by can.filling can.exists, linked proper can.filling can.exists q.0 q.1 k p.0 can.way)

  -- THEOREM: where the column is unique in a table that can have cached rows, one after which ground 3 applies
  pub unique-yes : (k : Column) → ColumnOf S k → once_unique S k ≡ true → (s : Shown S) × (Probe.uniquely_seen S s.database (cached_then s) k s.value ≡ true)
  unfolding once_unique Probe.uniquely_seen shown_by c
  unique-yes k col e =
      let p = (and-eq-true_iff (S.unique k) _).0 e in
      let can = can-says S k.table p.1 in
      (shown_by can.filling can.exists, both p.0 (sees proper can.filling can.exists k col can.way))

  -- a ground is found where the second or the third applies, and it is one of them where the column has no filling
  second-third : (a b : Bool) (x : Bool) → x ≡ false → a || b ≡ true → (Probe.lowest x a b ≡ 2) ⊎ (Probe.lowest x a b ≡ 3)
  second-third true b false e h = inl refl
  second-third false true false e h = inr refl
  second-third false false false e h = clash h refl
  second-third a b true e h = clash refl e

  unheld : (k : Column) → fetches S k ≡ false → (D : Database) (os : List Operation) (v : Cell) → held_in S (ran S D os).held k v ≡ false
  unfolding fetches
  unheld k e D os v = refute (held_in S (ran S D os).held k v) (λ x.
      let f = held-from S (ran S D os).held (ran-fit S D os) k v x in clash (any-true S.fillings (λ g. same_column (S.filling g).column k) f.0 f.1 f.2) e)

  -- THEOREM: where no filling has the column but a value can come to be complete there, there is a run after which a probe has ground 2 or 3
  pub once-yes : (k : Column) → ColumnOf S k → fetches S k ≡ false → once_here S k ≡ true →
      (s : Shown S) × ((probe_then S s.database s.operations k s.value ≡ 2) ⊎ (probe_then S s.database s.operations k s.value ≡ 3))
  unfolding once_here Probe.probe
  once-yes k col n e =
      ⊎_elim
      (λ x. let q = linked-yes k x in
      (q.0, second-third _ _ _ (unheld k n q.0.database q.0.operations q.0.value) (sym (or_left (Probe.demanded S q.0.database (cached_then q.0) k q.0.value) _ q.1))))
      (λ x. let q = unique-yes k col x in
      (q.0, second-third _ _ _ (unheld k n q.0.database q.0.operations q.0.value) (or-second (Probe.demanded S q.0.database (cached_then q.0) k q.0.value) _ q.1)))
      (or_cases (once_linked S k) (once_unique S k) e)

  -- THEOREM: a column has the verdict `never` exactly if every probe of it is sent, in every lawful database, after every run
  pub never-exactly : (k : Column) → ColumnOf S k → (never S k ≡ true) ↔ ((D : Database) → Lawful S D → (os : List Operation) (v : Cell) → probe_then S D os k v ≡ 0)
  unfolding never
  never-exactly k col = (λ e D l os v. never-sent-after proper k e D os v, λ f. both (no-fetch f) (no-once f))
    where
      no-fetch : ((D : Database) → Lawful S D → (os : List Operation) (v : Cell) → probe_then S D os k v ≡ 0) → not (fetches S k) ≡ true
      no-fetch f = ap not (refute (fetches S k) (λ e. let q = fetches-yes k e in omega (arith, q.1, f q.0.database q.0.lawful q.0.operations q.0.value)))

      no-once : ((D : Database) → Lawful S D → (os : List Operation) (v : Cell) → probe_then S D os k v ≡ 0) → not (once_here S k) ≡ true
      no-once f = ap not (refute (once_here S k) (λ e.
          let q = once-yes k col (refute (fetches S k) (λ x. clash x (not-true (fetches S k) (no-fetch f)))) e in
          let z = f q.0.database q.0.lawful q.0.operations q.0.value in
          ⊎_elim (λ x. omega (arith, x, z)) (λ x. omega (arith, x, z)) q.1))

-- ---- where seeing is enough

module _ (S : Scheme) (k : Column) where
  -- a test of one column that ends somewhere
  ends-says : (j : Column) → elsewhere_or k j ≡ true → j.table ≡ k.table → j ≡ k
  unfolding elsewhere_or
  ends-says j e t = ⊎_elim (λ x. clash x (ap not (eq-eqb _ _ t))) (λ x. same-column j k x) (or_cases (not (eqb j.table k.table)) (same_column j k) e)

  says-ends : (j : Column) → (j.table ≡ k.table → j ≡ k) → elsewhere_or k j ≡ true
  unfolding elsewhere_or
  says-ends j f =
      ⊎_elim
      (λ (x : eqb j.table k.table ≡ true). or-second (not (eqb j.table k.table)) _ (ap (λ (i : Column). same_column i k) (f (eqb-true _ _ x)) ∙ same-column-self k))
      (λ (x : eqb j.table k.table ≡ false). sym (or_left (not (eqb j.table k.table)) _ (ap not x)))
      (dec (eqb j.table k.table))

  -- THEOREM: the test says what Req 13 asks for
  pub one-column : (is_one_column S k ≡ true) ↔ OneColumn S k
  unfolding is_one_column
  one-column = (
    λ e. let q = (and-eq-true_iff (all S.constraints (λ i. elsewhere_or k (S.constraint i).target)) _).0 e in
        record {
          constraints = λ i l. ends-says (S.constraint i).target (all-at S.constraints _ q.0 i l);
          fillings = λ f l. ends-says (S.filling f).column (all-at S.fillings _ q.1 f l);
        },
    λ o. both (all_true S.constraints _ (λ i l. says-ends (S.constraint i).target (o.constraints i l))) (all_true S.fillings _ (λ f l. says-ends (S.filling f).column (o.fillings f l))),
  )

  -- THEOREM: where the test passes, after every run a value that a cached row has in the column has ground 1 or 2
  pub one-column-seen : is_one_column S k ≡ true → (D : Database) (os : List Operation) → SeeingEnough S D (held_in S (ran S D os).held) (marked (ran S D os).marks) k
  one-column-seen e D os = seeing-enough S D (ran S D os).held (ran-fit S D os) (marked (ran S D os).marks) (ran-sound S D os) k (one-column.0 e)
