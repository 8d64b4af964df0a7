-- The directory column by column, where a row comes or goes. Assumes nothing.
use Prim.Native.Nat.{ℕ, ◌+◌, ◌-◌, ◌*◌, ◌/◌, ◌%◌, ◌≤◌, ◌<◌}
use native.Mathlib.Decide.{dec_lt}
use native.Mathlib.Omega.{arith}
use mathlib.Core.Path.{◌≡◌, refl, sym, ap, subst, ◌∙◌}
use mathlib.Core.Bool.{true, false}
use mathlib.Core.List.{List}
use mathlib.Core.Logic.{◌⊎◌, inl, inr}
use lib.ListN.{length, get_or, set, length-set}
use lib.Seq.{get_or-set_other}
use Rattle.finite.proofs.Bools.{same_number, order}
use Rattle.finite.proofs.Skipping.{onward}
use Rattle.model.specs.Cell.{Cell}
use Rattle.model.specs.Scheme as Model
use Rattle.model.specs.Database.{Database, has}
use Rattle.catalog.specs.Catalog.{next_of, value_of, Lists, Directory}
use Rattle.catalog.specs.Columns.{column_no}
use Rattle.mend.specs.Changing.{Without}
use Rattle.mend.specs.Values.{Changing, Seats, Stands, Met, Opens, Comes, Stays, Closes, Goes}
use Rattle.catalog.proofs.ListedLaws.{has-own, has_key}
use Rattle.mend.proofs.ListsLaws.{lists-moved, lists-comes-apart, lists-goes-apart, lists-met, lists-opens, lists-stays, lists-closes}
use Rattle.catalog.proofs.Rows.{has-elsewhere}

-- ---- the columns below n are G's, the others D's

module _ (D G : Database) (n : ℕ) (keys heads starts : List ℕ) (x : Changing D G n keys heads starts) where
  order-at : (j : ℕ) → j < 64 → get_or starts j 0 ≤ get_or starts (j + 1) 0
  order-at j b = go (dec_lt j n)
    where
      go : Dec (j < n) → get_or starts j 0 ≤ get_or starts (j + 1) 0
      go (yes l) = (x.done j l b).order
      go (no l) = (x.rest j (omega arith) b).order

  rises : (i j : ℕ) → i ≤ j → j < 65 → get_or starts i 0 ≤ get_or starts j 0
  rises i j l b = onward (λ k. get_or starts i 0 ≤ get_or starts k 0) i j l (λ k u v h. omega (arith, order-at k (omega arith))) (omega arith)

  end : get_or starts 64 0 ≤ 4096
  end = go (dec_lt 63 n)
    where
      go : Dec (63 < n) → get_or starts 64 0 ≤ 4096
      go (yes l) = (x.done 63 l (omega arith)).bound
      go (no l) = (x.rest 63 (omega arith) (omega arith)).bound

  pub seats : n < 64 → Seats n keys heads starts
  seats l =
      record {
        keys-long = x.keys-long;
        heads-long = x.heads-long;
        starts-long = x.starts-long;
        rises = rises;
        end = end;
        falls = (x.rest n (omega arith) l).falls;
      }

  -- column n is G's too, and the other columns are what they were
  changing-step : (keys' heads' starts' : List ℕ) → n < 64 → length keys' ≡ 4096 → length heads' ≡ 4096 → length starts' ≡ 65
      → Lists G (column_no n) (get_or starts' n 0) (get_or starts' (n + 1) 0) keys' heads'
      → ((K : Database) (j : ℕ) → j < 64 → (j ≡ n → ⊥) → Lists K (column_no j) (get_or starts j 0) (get_or starts (j + 1) 0) keys heads
      → Lists K (column_no j) (get_or starts' j 0) (get_or starts' (j + 1) 0) keys' heads')
      → Changing D G (n + 1) keys' heads' starts'
  changing-step keys' heads' starts' l kl hl sl own others =
      record {
        keys-long = kl;
        heads-long = hl;
        starts-long = sl;
        done = λ j h b. done j h b (same_number j n);
        rest = λ j h b. others D j b (λ e. omega arith) (x.rest j (omega arith) b);
      }
    where
      done : (j : ℕ) → j < n + 1 → j < 64 → (j ≡ n) ⊎ (j ≡ n → ⊥) → Lists G (column_no j) (get_or starts' j 0) (get_or starts' (j + 1) 0) keys' heads'
      done j h b (inl e) = subst (λ (z : ℕ). Lists G (column_no z) (get_or starts' z 0) (get_or starts' (z + 1) 0) keys' heads') (sym e) own
      done j h b (inr e) = others G j b e (x.done j (omega (arith, e)) b)

  -- nothing changes
  changing-same : n < 64 → Lists G (column_no n) (get_or starts n 0) (get_or starts (n + 1) 0) keys heads → Changing D G (n + 1) keys heads starts
  changing-same l own = changing-step keys heads starts l x.keys-long x.heads-long x.starts-long own (λ K j b ne t. t)

  -- one first row of column n is another
  changing-set : (a v : ℕ) → n < 64 → get_or starts n 0 ≤ a → a < get_or starts (n + 1) 0
      → Lists G (column_no n) (get_or starts n 0) (get_or starts (n + 1) 0) keys (set heads a v) → Changing D G (n + 1) keys (set heads a v) starts
  changing-set a v l p q own = changing-step keys (set heads a v) starts l x.keys-long (length-set heads a v ∙ x.heads-long) x.starts-long own others
    where
      apart : (j i : ℕ) → j < 64 → (j < n) ⊎ ((j ≡ n) ⊎ (n < j)) → (j ≡ n → ⊥) → get_or starts j 0 ≤ i → i < get_or starts (j + 1) 0 → i ≡ a → ⊥
      apart j i b (inl h) ne u w e = omega (arith, rises (j + 1) n (omega arith) (omega arith))
      apart j i b (inr (inl h)) ne u w e = ne h
      apart j i b (inr (inr h)) ne u w e = omega (arith, rises (n + 1) j (omega arith) (omega arith))

      others : (K : Database) (j : ℕ) → j < 64 → (j ≡ n → ⊥) → Lists K (column_no j) (get_or starts j 0) (get_or starts (j + 1) 0) keys heads
          → Lists K (column_no j) (get_or starts j 0) (get_or starts (j + 1) 0) keys (set heads a v)
      others K j b ne t =
          lists-moved K (column_no j) _ _ _ _ 0 0 keys heads keys (set heads a v) refl refl t.bound t
          (λ i i' u w e. let z : i' ≡ i = omega arith in ap (λ (y : ℕ). get_or keys y 0) z)
          (λ i i' u w e. let z : i' ≡ i = omega arith in
          ap (λ (y : ℕ). get_or (set heads a v) y 0) z ∙ get_or-set_other heads a i v 0 (apart j i b (order j n) ne u w))

-- ---- row r comes, or goes

module _ (E F : Database) (r : ℕ) (w : Without E F r) (n : ℕ) (keys heads starts : List ℕ) (l : n < 64) where
  abbrev k : Model.Column
  k = column_no n

  -- it has no value in column n
  module _ (none : (v : Cell) → has F (column_no n) v r ≡ false) where
    pub comes-apart : Changing E F n keys heads starts → Changing E F (n + 1) keys heads starts
    comes-apart x = changing-same E F n keys heads starts x l (lists-comes-apart E F r w k _ _ keys heads none (x.rest n (omega arith) l))

    pub goes-apart : Changing F E n keys heads starts → Changing F E (n + 1) keys heads starts
    goes-apart x = changing-same F E n keys heads starts x l (lists-goes-apart E F r w k _ _ keys heads none (x.rest n (omega arith) l))

  -- it has the value with the key y
  module _ (y : ℕ) (h : has F (column_no n) (value_of y) r ≡ true) (keys' heads' starts' : List ℕ) where
    comes-met : Changing E F n keys heads starts → Met y r n keys heads starts keys' heads' starts' → Changing E F (n + 1) keys' heads' starts'
    comes-met x t =
        subst (λ (s : List ℕ). Changing E F (n + 1) keys' heads' s) (sym t.starts-are)
        (subst (λ (s : List ℕ). Changing E F (n + 1) s heads' starts) (sym t.keys-are)
        (subst (λ (s : List ℕ). Changing E F (n + 1) keys s starts) (sym t.heads-are)
        (changing-set E F n keys heads starts x t.at _ l t.stands.start t.stands.end
        (lists-met E F r w k _ _ keys heads y h (x.rest n (omega arith) l) t.at t.stands.start t.stands.end t.stands.here x.heads-long))))

    goes-stays : (next : ℕ) → next ≡ next_of F r (n % 8) → Changing F E n keys heads starts → Stays y r n next keys heads starts keys' heads' starts' → Changing F E (n + 1) keys' heads' starts'
    goes-stays next g x t =
        subst (λ (s : List ℕ). Changing F E (n + 1) keys' heads' s) (sym t.starts-are)
        (subst (λ (s : List ℕ). Changing F E (n + 1) s heads' starts) (sym t.keys-are)
        (subst (λ (s : List ℕ). Changing F E (n + 1) keys s starts) (sym t.heads-are)
        (changing-set F E n keys heads starts x t.at _ l t.stands.start t.stands.end
        (lists-stays E F r w k _ _ keys heads y h (x.rest n (omega arith) l) t.at next t.stands.start t.stands.end t.stands.here g x.heads-long))))

    comes-opens : Changing E F n keys heads starts → get_or starts 64 0 < 4096 → Opens y r n keys heads starts keys' heads' starts' → Changing E F (n + 1) keys' heads' starts'
    comes-opens x b t =
        changing-step E F n keys heads starts x keys' heads' starts' l (t.keys-are.moves.long ∙ x.keys-long) (t.heads-are.moves.long ∙ x.heads-long)
        (t.starts-are.long ∙ x.starts-long) own others
      where
        up : (i j : ℕ) → i ≤ j → j < 65 → get_or starts i 0 ≤ get_or starts j 0
        up = rises E F n keys heads starts x

        own : Lists F (column_no n) (get_or starts' n 0) (get_or starts' (n + 1) 0) keys' heads'
        own =
            subst (λ (z : ℕ). Lists F (column_no n) z (get_or starts' (n + 1) 0) keys' heads') (sym (t.starts-are.below n (omega arith)))
            (subst (λ (z : ℕ). Lists F (column_no n) (get_or starts n 0) z keys' heads') (sym (t.starts-are.above (n + 1) (omega arith) (omega arith)))
            (lists-opens E F r w k _ _ keys heads y h (x.rest n (omega arith) l) t.at (get_or starts 64 0) t.seat t.other keys' heads' t.keys-are t.heads-are
            (up (n + 1) 64 (omega arith) (omega arith)) b))

        others : (K : Database) (j : ℕ) → j < 64 → (j ≡ n → ⊥) → Lists K (column_no j) (get_or starts j 0) (get_or starts (j + 1) 0) keys heads
            → Lists K (column_no j) (get_or starts' j 0) (get_or starts' (j + 1) 0) keys' heads'
        others K j c ne s = go (order j n)
          where
            go : (j < n) ⊎ ((j ≡ n) ⊎ (n < j)) → Lists K (column_no j) (get_or starts' j 0) (get_or starts' (j + 1) 0) keys' heads'
            go (inl h) =
                lists-moved K (column_no j) _ _ _ _ 0 0 keys heads keys' heads' (omega (arith, t.starts-are.below j (omega arith)))
                (omega (arith, t.starts-are.below (j + 1) (omega arith))) (omega (arith, t.starts-are.below (j + 1) (omega arith), s.bound)) s
                (λ i i' u v e. let z : i' ≡ i = omega arith in
                ap (λ (o : ℕ). get_or keys' o 0) z ∙ t.keys-are.moves.below i (omega (arith, up (j + 1) n (omega arith) (omega arith), t.seat.start)))
                (λ i i' u v e. let z : i' ≡ i = omega arith in
                ap (λ (o : ℕ). get_or heads' o 0) z ∙ t.heads-are.moves.below i (omega (arith, up (j + 1) n (omega arith) (omega arith), t.seat.start)))
            go (inr (inl h)) = absurd (ne h)
            go (inr (inr h)) =
                lists-moved K (column_no j) _ _ _ _ 0 1 keys heads keys' heads' (omega (arith, t.starts-are.above j h (omega arith)))
                (omega (arith, t.starts-are.above (j + 1) (omega arith) (omega arith)))
                (omega (arith, t.starts-are.above (j + 1) (omega arith) (omega arith), up (j + 1) 64 (omega arith) (omega arith))) s
                (λ i i' u v e. let z : i' ≡ i + 1 = omega arith in
                ap (λ (o : ℕ). get_or keys' o 0) z
                ∙ t.keys-are.moves.moved i (omega (arith, up (n + 1) j (omega arith) (omega arith), t.seat.end)) (omega (arith, up (j + 1) 64 (omega arith) (omega arith))))
                (λ i i' u v e. let z : i' ≡ i + 1 = omega arith in
                ap (λ (o : ℕ). get_or heads' o 0) z
                ∙ t.heads-are.moves.moved i (omega (arith, up (n + 1) j (omega arith) (omega arith), t.seat.end)) (omega (arith, up (j + 1) 64 (omega arith) (omega arith))))

    goes-closes : (next : ℕ) → next ≡ next_of F r (n % 8) → ((s : ℕ) → (F.cell s (n % 8)).issue < 256) → Changing F E n keys heads starts
        → Closes y r n next keys heads starts keys' heads' starts' → Changing F E (n + 1) keys' heads' starts'
    goes-closes next g narrow x t =
        changing-step F E n keys heads starts x keys' heads' starts' l (sym t.keys-are.moves.long ∙ x.keys-long) (sym t.heads-are.moves.long ∙ x.heads-long)
        (sym t.starts-are.long ∙ x.starts-long) own others
      where
        up : (i j : ℕ) → i ≤ j → j < 65 → get_or starts i 0 ≤ get_or starts j 0
        up = rises F E n keys heads starts x

        one : (j : ℕ) → n < j → j < 65 → get_or starts j 0 ≡ get_or starts' j 0 + 1
        one = t.starts-are.above

        same : (j : ℕ) → j ≤ n → get_or starts j 0 ≡ get_or starts' j 0
        same = t.starts-are.below

        own : Lists E (column_no n) (get_or starts' n 0) (get_or starts' (n + 1) 0) keys' heads'
        own =
            let e : get_or starts (n + 1) 0 - 1 ≡ get_or starts' (n + 1) 0 = omega (arith, one (n + 1) (omega arith) (omega arith)) in
            subst (λ (z : ℕ). Lists E (column_no n) z (get_or starts' (n + 1) 0) keys' heads') (same n (omega arith))
            (subst (λ (z : ℕ). Lists E (column_no n) (get_or starts n 0) z keys' heads') e
            (lists-closes E F r w k _ _ keys heads y h (x.rest n (omega arith) l) t.at next t.stands.start t.stands.end t.stands.here g (get_or starts' 64 0) t.first
            t.last keys' heads' t.keys-are t.heads-are (omega (arith, up (n + 1) 64 (omega arith) (omega arith), one 64 l (omega arith))) narrow))

        others : (K : Database) (j : ℕ) → j < 64 → (j ≡ n → ⊥) → Lists K (column_no j) (get_or starts j 0) (get_or starts (j + 1) 0) keys heads
            → Lists K (column_no j) (get_or starts' j 0) (get_or starts' (j + 1) 0) keys' heads'
        others K j c ne s = go (order j n)
          where
            go : (j < n) ⊎ ((j ≡ n) ⊎ (n < j)) → Lists K (column_no j) (get_or starts' j 0) (get_or starts' (j + 1) 0) keys' heads'
            go (inl h) =
                lists-moved K (column_no j) _ _ _ _ 0 0 keys heads keys' heads' (omega (arith, same j (omega arith))) (omega (arith, same (j + 1) (omega arith)))
                (omega (arith, same (j + 1) (omega arith), s.bound)) s
                (λ i i' u v e. let z : i' ≡ i = omega arith in
                ap (λ (o : ℕ). get_or keys' o 0) z ∙ sym (t.keys-are.moves.below i (omega (arith, up (j + 1) n (omega arith) (omega arith), t.stands.start))))
                (λ i i' u v e. let z : i' ≡ i = omega arith in
                ap (λ (o : ℕ). get_or heads' o 0) z ∙ sym (t.heads-are.moves.below i (omega (arith, up (j + 1) n (omega arith) (omega arith), t.stands.start))))
            go (inr (inl h)) = absurd (ne h)
            go (inr (inr h)) =
                lists-moved K (column_no j) _ _ _ _ 1 0 keys heads keys' heads' (omega (arith, one j h (omega arith)))
                (omega (arith, one (j + 1) (omega arith) (omega arith))) (omega (arith, one (j + 1) (omega arith) (omega arith), s.bound)) s
                (λ i i' u v e. let z : i ≡ i' + 1 = omega arith in
                sym (ap (λ (o : ℕ). get_or keys o 0) z ∙ t.keys-are.moves.moved i' (omega (arith, up (n + 1) j (omega arith) (omega arith), t.stands.end))
                (omega (arith, up (j + 1) 64 (omega arith) (omega arith), one 64 l (omega arith)))))
                (λ i i' u v e. let z : i ≡ i' + 1 = omega arith in
                sym (ap (λ (o : ℕ). get_or heads o 0) z ∙ t.heads-are.moves.moved i' (omega (arith, up (n + 1) j (omega arith) (omega arith), t.stands.end))
                (omega (arith, up (j + 1) 64 (omega arith) (omega arith), one 64 l (omega arith)))))

    pub comes-in : Changing E F n keys heads starts → get_or starts 64 0 < 4096 → Comes y r n keys heads starts keys' heads' starts' → Changing E F (n + 1) keys' heads' starts'
    comes-in x b (inl t) = comes-met x t
    comes-in x b (inr t) = comes-opens x b t

    pub goes-out : (next : ℕ) → next ≡ next_of F r (n % 8) → ((s : ℕ) → (F.cell s (n % 8)).issue < 256) → Changing F E n keys heads starts
        → Goes y r n next keys heads starts keys' heads' starts' → Changing F E (n + 1) keys' heads' starts'
    goes-out next g narrow x (inl t) = goes-stays next g x t
    goes-out next g narrow x (inr t) = goes-closes next g narrow x t

  -- the value stands in the column while the row is there
  pub stands-in : (y : ℕ) → has F (column_no n) (value_of y) r ≡ true → Changing F E n keys heads starts → (i : ℕ) × Stands y n i keys starts
  stands-in y h x =
      let f = (x.rest n (omega arith) l).there r (omega arith) (has-own F k (value_of y) r h) in
      (f.0, record { start = f.1; end = f.2; here = f.3 ∙ has_key F k y r h })

-- at most one place more
pub comes-room : (y r n : ℕ) (keys heads starts keys' heads' starts' : List ℕ) → n < 64 → Comes y r n keys heads starts keys' heads' starts'
    → get_or starts' 64 0 ≤ get_or starts 64 0 + 1
comes-room y r n keys heads starts keys' heads' starts' l (inl t) = omega (arith, ap (λ (s : List ℕ). get_or s 64 0) t.starts-are)
comes-room y r n keys heads starts keys' heads' starts' l (inr t) = omega (arith, t.starts-are.above 64 l (omega arith))

-- ---- the columns before the row's table, and behind it

module _ (D : Database) (keys heads starts : List ℕ) where
  directory-lists : Directory D keys heads starts → (j : ℕ) → j < 64 → Lists D (column_no j) (get_or starts j 0) (get_or starts (j + 1) 0) keys heads
  directory-lists d j l =
      let e : 8 * (j / 8) + j % 8 ≡ j = omega arith in
      subst (λ (z : ℕ). Lists D (column_no j) (get_or starts z 0) (get_or starts (z + 1) 0) keys heads) e (d.column (j / 8) (j % 8) (omega arith) (omega arith))

  lists-directory : length keys ≡ 4096 → length heads ≡ 4096 → length starts ≡ 65
      → ((j : ℕ) → j < 64 → Lists D (column_no j) (get_or starts j 0) (get_or starts (j + 1) 0) keys heads) → Directory D keys heads starts
  lists-directory kl hl sl x = record { keys-long = kl; heads-long = hl; starts-long = sl; column = λ t c a b. column t c a b }
    where
      column : (t c : ℕ) → t < 8 → c < 8 → Lists D (record { table = t; place = c }) (get_or starts (8 * t + c) 0) (get_or starts (8 * t + c + 1) 0) keys heads
      column t c a b =
          let p : (8 * t + c) / 8 ≡ t = omega arith in
          let q : (8 * t + c) % 8 ≡ c = omega arith in
          subst (λ (z : ℕ). Lists D (record { table = t; place = z }) (get_or starts (8 * t + c) 0) (get_or starts (8 * t + c + 1) 0) keys heads) q
          (subst (λ (z : ℕ). Lists D (record { table = z; place = (8 * t + c) % 8 }) (get_or starts (8 * t + c) 0) (get_or starts (8 * t + c + 1) 0) keys heads) p
          (x (8 * t + c) (omega arith)))

module _ (E F : Database) (r : ℕ) (w : Without E F r) (t : ℕ) (e : F.table r ≡ t) (l : t < 8) (keys heads starts : List ℕ) where
  -- row r has nothing in the columns of other tables
  elsewhere : (j : ℕ) → (j / 8 ≡ t → ⊥) → (v : Cell) → has F (column_no j) v r ≡ false
  elsewhere j ne v = has-elsewhere F (j / 8) (j % 8) r (λ q. ne (sym q ∙ e)) v

  pub comes-start : Directory E keys heads starts → Changing E F (8 * t + 0) keys heads starts
  comes-start d =
      record {
        keys-long = d.keys-long;
        heads-long = d.heads-long;
        starts-long = d.starts-long;
        done = λ j h b. lists-comes-apart E F r w (column_no j) _ _ keys heads (elsewhere j (λ q. omega arith)) (directory-lists E keys heads starts d j b);
        rest = λ j h b. directory-lists E keys heads starts d j b;
      }

  pub goes-start : Directory F keys heads starts → Changing F E (8 * t + 0) keys heads starts
  goes-start d =
      record {
        keys-long = d.keys-long;
        heads-long = d.heads-long;
        starts-long = d.starts-long;
        done = λ j h b. lists-goes-apart E F r w (column_no j) _ _ keys heads (elsewhere j (λ q. omega arith)) (directory-lists F keys heads starts d j b);
        rest = λ j h b. directory-lists F keys heads starts d j b;
      }

  pub comes-end : (c : ℕ) → 8 ≤ c → c ≤ 8 → Changing E F (8 * t + c) keys heads starts → Directory F keys heads starts
  comes-end c a b x = lists-directory F keys heads starts x.keys-long x.heads-long x.starts-long (λ j h. go j h (dec_lt j (8 * t + c)))
    where
      go : (j : ℕ) → j < 64 → Dec (j < 8 * t + c) → Lists F (column_no j) (get_or starts j 0) (get_or starts (j + 1) 0) keys heads
      go j h (yes q) = x.done j q h
      go j h (no q) = lists-comes-apart E F r w (column_no j) _ _ keys heads (elsewhere j (λ u. omega arith)) (x.rest j (omega arith) h)

  pub goes_end : (c : ℕ) → 8 ≤ c → c ≤ 8 → Changing F E (8 * t + c) keys heads starts → Directory E keys heads starts
  goes_end c a b x = lists-directory E keys heads starts x.keys-long x.heads-long x.starts-long (λ j h. go j h (dec_lt j (8 * t + c)))
    where
      go : (j : ℕ) → j < 64 → Dec (j < 8 * t + c) → Lists E (column_no j) (get_or starts j 0) (get_or starts (j + 1) 0) keys heads
      go j h (yes q) = x.done j q h
      go j h (no q) = lists-goes-apart E F r w (column_no j) _ _ keys heads (elsewhere j (λ u. omega arith)) (x.rest j (omega arith) h)
