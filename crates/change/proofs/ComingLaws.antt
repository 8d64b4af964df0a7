-- The marks where a row comes: what calls for it, and what it loads. Assumes nothing.
use Prim.Native.Nat.{ℕ, ◌≤◌, ◌<◌}
use native.Mathlib.Decide.{dec_lt}
use native.Mathlib.Omega.{arith}
use mathlib.Core.Path.{◌≡◌, refl, sym, ap, ap₂, subst, ◌∙◌}
use mathlib.Core.Logic.{◌⊎◌, inl, inr, ⊎_elim}
use mathlib.Core.Bool.{Bool, true, false, not, cond, ◌&&◌, ◌||◌, and-eq-true_iff}
use mathlib.Core.List.{List, ◌++◌}
use borrow.Author.Tests.{not-true}
use lib.Dec.{eqb, ltb}
use lib.ListN.{length, take, drop}
use lib.Seq.{get_or-take}
use Rattle.finite.specs.Finite.{count, tab}
use Rattle.finite.proofs.Bools.{both, clash, same_number, and_left, or_cases, or_left, ne-not}
use Rattle.finite.proofs.Counting.{count_none, count_same}
use Rattle.finite.proofs.Tables.{tab-same}
use Rattle.model.specs.Cell.{Cell, is_blank, equal}
use Rattle.model.specs.Scheme.{Column, Scheme}
use Rattle.model.specs.Database.{Database, Has, has}
use Rattle.model.specs.Cache as Model
use Rattle.model.specs.Cache.{RowSet, Inside, Complete, Meets, Smallest}
use Rattle.model.specs.Holding.{Holding, held_in}
use Rattle.model.specs.Probe.{demanded, uniquely_seen, lowest, probe}
use Rattle.model.specs.Rounds.{level, reached, load, added_rows}
use Rattle.model.specs.Runs.{marked, cached_for}
use Rattle.model.specs.Answers.{changed}
use Rattle.model.proofs.CellLaws.{blank-is, equal-full, equal-same, equal-self}
use Rattle.model.proofs.Closed.{constraints-closed}
use Rattle.model.proofs.DatabaseLaws.{has-Has, Has-has, has-full}
use Rattle.model.proofs.ProbeLaws.{Demanded, demanded-Demanded, Demanded-demanded}
use Rattle.finite.proofs.Bools.{or-second}
use Rattle.model.proofs.RoundsLaws.{load_same}
use Rattle.model.proofs.RunLaws.{held-smallest}
use Rattle.state.specs.declared.cell.Cell as State
use Rattle.state.specs.declared.held.Held.{Held}
use Rattle.state.specs.declared.rows.Row.{Row}
use Rattle.state.specs.Design.{Backed}
use Rattle.state.specs.Meaning.{cell_of, free_table, holding_of}
use Rattle.state.specs.Changes.{Rows, tables_of, row_cell, stored}
use Rattle.lawful.proofs.RowsLaws.{cell-past}
use Rattle.lawful.proofs.StoredLaws.{RowSized, table_same, live_same, cell_same}
use Rattle.mend.proofs.BesideLaws.{has-beside}
use Rattle.change.specs.Replacing.{Marking, Coming, Remarked, column_in, called_at}
use Rattle.change.proofs.OtherRows.{reach, load-joins, load-adds}
use Rattle.change.proofs.SmallestLaws.{comes-uncalled, comes-called, new-live}
use Rattle.change.proofs.ReplaceLaws.{remarked-by, marks-at}
use Rattle.change.proofs.BesideLaws.{stored-without}
use Rattle.change.proofs.LeavingLaws.{marking-marked, not-both}

-- ---- by the lowest ground of a probe

module _ (S : Scheme) (D : Database) (h : Holding) (X : RowSet) (x : Row) (c : ℕ) (v : State.Cell) (e : cell_of v ≡ row_cell x c) where
  pub called-blank : is_blank (cell_of v) ≡ true → false ≡ called_at S D h X x c
  unfolding called_at
  called-blank b = sym (and_left (not (is_blank (row_cell x c))) _ (ap not (sym (ap is_blank e) ∙ b)))

  module _ (f : is_blank (cell_of v) ≡ false) (g : ℕ) (p : g ≡ probe S D (held_in S h) X (column_in x c) (cell_of v)) where
    full : (q : Bool) → q ≡ held_in S h (column_in x c) (row_cell x c) || demanded S D X (column_in x c) (row_cell x c) → q ≡ called_at S D h X x c
    unfolding called_at
    full q k = k ∙ ap (λ (b : Bool). b && (held_in S h (column_in x c) (row_cell x c) || demanded S D X (column_in x c) (row_cell x c))) (sym (ap not (sym (ap is_blank e) ∙ f)))

    is : g ≡ probe S D (held_in S h) X (column_in x c) (row_cell x c)
    is = p ∙ ap (probe S D (held_in S h) X (column_in x c)) e

    pub called-first : g ≡ 1 → true ≡ called_at S D h X x c
    unfolding probe
    called-first o =
        full true (go (held_in S h (column_in x c) (row_cell x c)) (demanded S D X (column_in x c) (row_cell x c)) (uniquely_seen S D X (column_in x c) (row_cell x c)) (sym is ∙ o))
      where
        go : (a b u : Bool) → lowest a b u ≡ 1 → true ≡ a || b
        go true b u n = refl
        go false true u n = refl
        go false false true n = absurd (omega arith)
        go false false false n = absurd (omega arith)

    pub called-second : (g ≡ 1 → ⊥) → eqb g 2 ≡ called_at S D h X x c
    unfolding probe
    called-second o =
        full (eqb g 2)
        (ap (λ (n : ℕ). eqb n 2) is ∙
        go (held_in S h (column_in x c) (row_cell x c)) (demanded S D X (column_in x c) (row_cell x c)) (uniquely_seen S D X (column_in x c) (row_cell x c)) (λ n. o (is ∙ n)))
      where
        go : (a b u : Bool) → (lowest a b u ≡ 1 → ⊥) → eqb (lowest a b u) 2 ≡ a || b
        go true b u n = absurd (n refl)
        go false true u n = refl
        go false false true n = refl
        go false false false n = refl

-- ---- the marks

module _ {S : Scheme} {E F : Database} {h : Held} {r : ℕ} {x : Row} {m : List ℕ} (long : 512 ≤ length m) (y : Coming S E F h r x m) where
  abbrev H : Model.Held
  H = held_in S (holding_of h)

  abbrev X : RowSet
  X = cached_for S E (holding_of h)

  abbrev M : RowSet
  M = marked (take 512 m)

  sm : Smallest S E H X
  sm = held-smallest S E (holding_of h)

  below : (s : ℕ) → X s ≡ true → s < 512
  below s t = omega (arith, E.finite s (sm.meets.rows s t), y.without.size-without)

  is-marked : (s : ℕ) → s < 512 → marked m s ≡ X s
  is-marked s l = marking-marked y.marking s l

  front : (s : ℕ) → s < 512 → M s ≡ marked m s
  unfolding marked
  front s l = ap (λ (n : ℕ). eqb n 1) (get_or-take 512 m s 0 l)

  -- the row's own column
  own : (k : Column) (v : Cell) → Has F k v r → (k.place < 8) × (k ≡ column_in x k.place) × (v ≡ row_cell x k.place)
  own k v q = go (dec_lt k.place 8)
    where
      go : Dec (k.place < 8) → (k.place < 8) × (k ≡ column_in x k.place) × (v ≡ row_cell x k.place)
      go (yes l) =
          let t : k.table ≡ x.table = sym q.table ∙ y.table in
          (l, (λ i. record { table = t i; place = k.place }), sym (equal-same _ _ q.value) ∙ y.cell k.place l)
      go (no l) = clash (ap is_blank (y.past k.place (omega arith)) ∙ blank-is) (equal-full _ v q.value)

  -- ---- nothing calls for it

  module _ (none : (c : ℕ) → c < 8 → called_at S F (holding_of h) M x c ≡ false) where
    nowhere : (k : Column) (v : Cell) → Has F k v r → H k v || demanded S F M k v ≡ true → ⊥
    unfolding called_at
    nowhere k v q e =
        let o = own k v q in
        clash
        (both (ap not (sym (ap is_blank o.2) ∙ has-full q))
        (subst (λ (w : Cell). H (column_in x k.place) w || demanded S F M (column_in x k.place) w ≡ true) o.2
        (subst (λ (j : Column). H j v || demanded S F M j v ≡ true) o.1 e)))
        (none k.place o.0)

    pub coming-uncalled : Remarked S F h m (changed 0 0) m
    coming-uncalled =
        remarked-by y.without.size-with
        (comes-uncalled y.without sm (λ k v e q. nowhere k v q (sym (or_left (H k v) _ e)))
        (λ s t d. nowhere _ d.value d.target
        (or-second (H _ d.value) _ (Demanded-demanded (record {
          number = d.number;
          exists = d.exists;
          ends = refl;
          source = record { row = s; cached = front s (below s t) ∙ is-marked s (below s t) ∙ t; has = d.source };
        })))))
        (sym (count_none 512 _ (λ s l. ap (λ (b : Bool). X s && not b) (is-marked s l) ∙ not-both (X s))))
        (sym (count_none 512 _ (λ s l. ap (λ (b : Bool). b && not (X s)) (is-marked s l) ∙ not-both (X s))))
        (marks-at X m m long (λ s l. y.marking.at s l) refl)

  -- ---- it is called for in column c

  module _ (c : ℕ) (l : c < 8) (call : called_at S F (holding_of h) M x c ≡ true) where
    abbrev k : Column
    k = column_in x c

    abbrev v : Cell
    v = row_cell x c

    filled : is_blank v ≡ false
    unfolding called_at
    filled = not-true (is_blank v) ((and-eq-true_iff (not (is_blank v)) _).0 call).0

    grounds : (H k v ≡ true) ⊎ Demanded S F M k v
    unfolding called_at
    grounds = ⊎_elim inl (λ d. inr (demanded-Demanded S F M k v d)) (or_cases (H k v) (demanded S F M k v) ((and-eq-true_iff (not (is_blank v)) _).0 call).1)

    here : Has F k v r
    here = record { live = y.live; table = y.table; value = ap (λ (a : Cell). equal a v) (y.cell c l) ∙ equal-self v filled }

    -- a row that demands it is cached
    source : (d : Demanded S F M k v) → X d.source.row ≡ true
    source d =
        let b : d.source.row < 512 = omega (arith, F.finite d.source.row d.source.has.live, y.without.size-with) in
        sym (is-marked d.source.row b) ∙ sym (front d.source.row b) ∙ d.source.cached

    not-r : {s : ℕ} → X s ≡ true → s ≡ r → ⊥
    not-r {s} t e = clash (sm.meets.rows s t) (ap E.live e ∙ y.without.free)

    without : (j : Column) (a : Cell) (s : ℕ) → (s ≡ r → ⊥) → Has F j a s → Has E j a s
    without j a s ne q = has-Has E j a s (has-beside E F r y.without j a s ne ∙ Has-has q)

    -- the other rows that have the value are cached
    others-cached : (s : ℕ) → (s ≡ r → ⊥) → Has F k v s → (H k v ≡ true) ⊎ Demanded S F M k v → X s ≡ true
    unfolding Complete
    others-cached s ne q (inl e) = sm.meets.values k v e s (without k v s ne q)
    others-cached s ne q (inr d) =
        (constraints-closed {S = S} sm.meets.rows sm.meets.constraints).demanded d.source.row s (source d)
        (record {
          number = d.number;
          exists = d.exists;
          value = v;
          source = without _ v d.source.row (not-r (source d)) d.source.has;
          target = subst (λ (j : Column). Has E j v s) (sym d.ends) (without k v s ne q);
        })

    seeds : (s : ℕ) → has F k v s ≡ true → (s ≡ r) ⊎ (s ≡ r → ⊥) → (s ≡ r) ⊎ (X s ≡ true)
    seeds s t (inl e) = inl e
    seeds s t (inr ne) = inr (others-cached s ne (has-Has F k v s t) grounds)

    called : (Y : RowSet) → Meets S F H Y → Inside X Y → Y r ≡ true
    unfolding Complete
    called Y n i =
        ⊎_elim (λ e. n.values k v e r here)
        (λ d. (constraints-closed {S = S} n.rows n.constraints).demanded d.source.row r (i d.source.row (source d))
        (record { number = d.number; exists = d.exists; value = v; source = d.source.has; target = subst (λ (j : Column). Has F j v r) (sym d.ends) here })) grounds

    abbrev Y : RowSet
    Y s = X s || reach S F X (has F k v) s

    smallest : Smallest S F H Y
    smallest = comes-called y.without sm (has F k v) y.live (Has-has here) (λ s t. seeds s t (same_number s r)) called

    live : Inside (λ s. has F k v s && not (X s)) (λ s. F.live s && not (X s))
    live = new-live y.without sm (has F k v) y.live (Has-has here) (λ s t. seeds s t (same_number s r)) called

    pub coming-called : (a : Cell) → a ≡ v → (K : List ℕ) → K ≡ load S F (marked m) (has F k a) → (came : ℕ) → came ≡ added_rows F K → (m' : List ℕ) →
        m' ≡ tab 512 (λ s. cond (reached K s) 1 0) ++ drop 512 m → Remarked S F h m (changed came 0) m'
    unfolding added_rows
    coming-called a e K f came g m' o =
        remarked-by y.without.size-with smallest
        (g ∙ ap (λ (n : ℕ). count n (λ s. ltb 1 (level K s))) z ∙ count_same 512 _ _ added)
        (sym (count_none 512 _ (λ s q. ap (λ (b : Bool). b && not (Y s)) (is-marked s q) ∙ kept s (X s) refl)))
        (o ∙ ap (λ (xs : List ℕ). xs ++ drop 512 m) (tab-same 512 _ _ (λ s q. ap (λ (b : Bool). cond b 1 0) (joins s q))))
      where
        z : F.size ≡ 512
        z = y.without.size-with

        is : K ≡ load S F X (has F k v)
        is = f ∙ ap (λ (w : Cell). load S F (marked m) (has F k w)) e ∙ load_same S F _ _ _ _ (λ s q. is-marked s (omega (arith, z))) (λ s q. refl)

        joins : (s : ℕ) → s < 512 → reached K s ≡ Y s
        joins s q = ap (λ (L : List ℕ). reached L s) is ∙ load-joins S F X (has F k v) s (omega (arith, z))

        added : (s : ℕ) → s < 512 → ltb 1 (level K s) ≡ Y s && not (marked m s)
        added s q =
            ap (λ (L : List ℕ). ltb 1 (level L s)) is ∙ load-adds S F X (has F k v) live s (omega (arith, z)) ∙
            ap₂ (λ (b d : Bool). b && not d) (load-joins S F X (has F k v) s (omega (arith, z))) (sym (is-marked s q))

        kept : (s : ℕ) (b : Bool) → X s ≡ b → b && not (Y s) ≡ false
        kept s true t = ap not (sym (or_left (X s) (reach S F X (has F k v) s) t))
        kept s false t = refl

-- ---- as the code finds it

-- the lent rows R become R', where x stands at number r
pub comes : (S : Scheme) {h : Held} {m : List ℕ} (R : Rows) (r : ℕ) → r < 512 → Backed R.cells R.tables → (x : Row) → RowSized x → x.table < 8 →
    (tables_of R).live r ≡ false → (R' : Rows) → R' ≡ stored R r x → Marking S (tables_of R) h m → Coming S (tables_of R) (tables_of R') h r x m
comes S {h} {m} R r l b x z t f R' e k =
    subst (λ (T : Rows). Coming S (tables_of R) (tables_of T) h r x m) (sym e)
    (record {
      without = stored-without R r l b x z f (stored R r x) refl;
      marking = k;
      live = live_same R r x z l b ∙ ne-not x.table free_table (λ q. omega arith);
      table = table_same R r x z l b;
      cell = λ c q. cell_same R r x z l b c q;
      past = λ c q. cell-past (stored R r x).cells (stored R r x).tables r c q;
    })
