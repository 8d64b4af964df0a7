-- What a lawful design is written as are bytes. Assumes nothing.
use Prim.Native.Nat.{ℕ, zero, suc, ◌+◌, ◌*◌, ◌^◌, ◌≤◌, ◌<◌}
use native.Mathlib.Nat.{lt_of_lt_of_le}
use native.Mathlib.Omega.{arith}
use mathlib.Core.Path.{◌≡◌, refl, sym, subst, ◌∙◌}
use mathlib.Core.Bool.{Bool, true, false, not, cond, ◌&&◌, and-eq-true_iff}
use mathlib.Core.List.{List, [], ◌∷◌, ◌++◌}
use borrow.Author.Tests.{ltb-true, leb-true}
use lib.Dec.{leb, ltb}
use lib.ListN.{get_or}
use lib.Pow.{pow_mono}
use Rattle.finite.specs.Finite.{any, tab, collect}
use Rattle.model.specs.Scheme.{is_column, same_column}
use Rattle.state.specs.Cells.{Cells}
use Rattle.state.specs.declared.design.Column.{Column}
use Rattle.state.specs.declared.design.Design.{Design}
use Rattle.state.specs.Design.{table_at, constraint_at, filling_at}
use Rattle.state.specs.Meaning.{column_of, scheme_of, database_of}
use Rattle.state.specs.Lawful.{table_fits, zero_table, same_constraint, constraint_fits, zero_constraint, filling_fits, zero_filling, row_fits, repeats, blank_row, lawful_design, lawful_rows}
use Rattle.state.proofs.Places.{used-is, where-used}
use Rattle.command.specs.Bytes.{u32_bytes}
use Rattle.format.specs.Writing.{table_bytes, constraint_bytes, filling_bytes, row_bytes, design_bytes}
use Rattle.format.proofs.RowText.{any_issue, numbers_text, row_text, row-text}
use Rattle.format.proofs.LawfulLaws.{Parts, parts, row_test}

-- every element is a byte
pub record Small (xs : List ℕ) : Type 0 where
  pub at : (j : ℕ) → get_or xs j 0 < 256

small-none : Small []
small-none = record { at = λ j. omega arith }

small_one : (x : ℕ) (xs : List ℕ) → x < 256 → Small xs → Small (x ∷ xs)
small_one x xs h s = record { at = go }
  where
    go : (j : ℕ) → get_or (x ∷ xs) j 0 < 256
    go zero = h
    go (suc j) = s.at j

small-append : (xs ys : List ℕ) → Small xs → Small ys → Small (xs ++ ys)
small-append [] ys a b = b
small-append (x ∷ xs) ys a b = small_one x (xs ++ ys) (a.at 0) (small-append xs ys (record { at = λ j. a.at (suc j) }) b)

small-collect : (n : ℕ) (p : ℕ → Bool) (f : ℕ → List ℕ) → ((i : ℕ) → i < n → p i ≡ true → Small (f i)) → Small (collect n p f)
unfolding collect
small-collect zero p f h = small-none
small-collect (suc n) p f h = small-append (collect n p f) (cond (p n) (f n) []) (small-collect n p f (λ i l. h i (omega arith))) (go (p n) (h n (omega arith)))
  where
    go : (b : Bool) → (b ≡ true → Small (f n)) → Small (cond b (f n) [])
    go true g = g refl
    go false g = small-none

small-tab : (n : ℕ) (g : ℕ → ℕ) → ((i : ℕ) → g i < 256) → Small (tab n g)
unfolding tab
small-tab zero g h = small-none
small-tab (suc n) g h = small_one (g 0) (tab n (λ i. g (suc i))) (h 0) (small-tab n (λ i. g (suc i)) (λ i. h (suc i)))

small-u32 : (v : ℕ) → Small (u32_bytes v)
unfolding u32_bytes
small-u32 v = small_one _ _ (omega arith) (small_one _ _ (omega arith) (small_one _ _ (omega arith) (small_one _ _ (omega arith) small-none)))

small-text : (t : ℕ) (f g : ℕ → ℕ) → t < 256 → ((c : ℕ) → g c < 256) → Small (row_text t f g)
unfolding row_text
small-text t f g l h = go (any_issue g)
  where
    numbers : Small (numbers_text f)
    numbers = small-collect 8 _ _ (λ c k e. small-u32 _)

    go : (b : Bool) → Small (cond b (7 ∷ t ∷ (numbers_text f ++ tab 8 g)) (4 ∷ t ∷ numbers_text f))
    go true = small_one _ _ (omega arith) (small_one _ _ l (small-append (numbers_text f) (tab 8 g) numbers (small-tab 8 g h)))
    go false = small_one _ _ (omega arith) (small_one _ _ l numbers)

-- ---- the numbers of a lawful design

module _ (d : Design) (p : Parts d) where
  -- a table that is used has at most 8 columns, and no unique column past them
  fitting : (i : ℕ) → i < d.tables → ((table_at d i).columns ≤ 8) × ((table_at d i).unique < 256)
  unfolding table_fits
  fitting i l =
      let t = table_at d i in
      let f : table_fits t ≡ true = sym (used-is i d.tables (table_fits t) (zero_table t) l) ∙ p.table i (let h = p.tables in omega arith) in
      let x = (and-eq-true_iff (leb 1 t.columns) (leb t.columns 8 && ltb t.unique (2 ^ t.columns))).0 f in
      let y = (and-eq-true_iff (leb t.columns 8) (ltb t.unique (2 ^ t.columns))).0 x.1 in
      (leb-true _ _ y.0, lt_of_lt_of_le (ltb-true _ _ y.1) (pow_mono (leb-true _ _ y.0)))

  naming : (k : Column) → is_column (scheme_of d) (column_of k) ≡ true → (k.table < 8) × (k.place < 8)
  unfolding is_column scheme_of
  naming k h =
      let x = (and-eq-true_iff (ltb k.table d.tables) (ltb k.place (table_at d k.table).columns)).0 h in
      let a = ltb-true k.table d.tables x.0 in let b = ltb-true k.place (table_at d k.table).columns x.1 in let c = fitting k.table a in let e = p.tables in
      (omega arith, omega arith)

  small-table : (i : ℕ) → i < d.tables → Small (table_bytes (table_at d i))
  unfolding table_bytes
  small-table i l = let x = fitting i l in small_one _ _ (omega arith) (small_one _ _ (omega arith) (small_one _ _ (omega arith) small-none))

  small-constraint : (i : ℕ) → i < d.constraints → Small (constraint_bytes (constraint_at d i))
  unfolding constraint_bytes constraint_fits
  small-constraint i l =
      let c = constraint_at d i in
      let f : constraint_fits d i c ≡ true = sym (used-is i d.constraints (constraint_fits d i c) (zero_constraint c) l) ∙ p.constraint i (let h = p.constraints in omega arith) in
      let others = not (any i (λ j. same_constraint (constraint_at d j) c)) in
      let x = (and-eq-true_iff (is_column (scheme_of d) (column_of c.source)) (is_column (scheme_of d) (column_of c.target) && others)).0 f in
      let y = (and-eq-true_iff (is_column (scheme_of d) (column_of c.target)) others).0 x.1 in
      let a = naming c.source x.0 in let b = naming c.target y.0 in
      small_one _ _ (omega arith) (small_one _ _ (omega arith) (small_one _ _ (omega arith) (small_one _ _ (omega arith) (small_one _ _ (omega arith) small-none))))

  small-filling : (i : ℕ) → i < d.fillings → Small (filling_bytes (filling_at d i))
  unfolding filling_bytes filling_fits
  small-filling i l =
      let f = filling_at d i in
      let h : filling_fits d i f ≡ true = sym (used-is i d.fillings (filling_fits d i f) (zero_filling f) l) ∙ p.filling i (let h = p.fillings in omega arith) in
      let rest = leb 1 f.low && (leb f.low f.high && not (any i (λ j. same_column (column_of (filling_at d j).column) (column_of f.column)))) in
      let a = naming f.column ((and-eq-true_iff (is_column (scheme_of d) (column_of f.column)) rest).0 h).0 in
      small_one _ _ (omega arith) (small_one _ _ (omega arith) (small_one _ _ (omega arith) (small-append (u32_bytes f.low) (u32_bytes f.high) (small-u32 _) (small-u32 _))))

  small_row : (cells : Cells) (tables : List ℕ) → ((x : ℕ) → get_or cells.issues x 0 < 256) → lawful_rows d cells tables ≡ true → (r : ℕ) → r < 512
      → (database_of cells tables).live r ≡ true → Small (row_bytes cells tables r)
  unfolding lawful_rows row_fits scheme_of database_of
  small_row cells tables small q r l e =
      let S = scheme_of d in let D = database_of cells tables in
      let t : row_test S D r ≡ true = where-used 512 D.live (row_test S D) (blank_row D) q r l e in
      let f : row_fits S D r ≡ true = ((and-eq-true_iff (row_fits S D r) (not (repeats S D r))).0 t).0 in
      let a = ltb-true (get_or tables r 0) d.tables ((and-eq-true_iff (ltb (get_or tables r 0) d.tables) _).0 f).0 in
      let h = p.tables in
      subst Small (sym (row-text cells tables r)) (small-text (get_or tables r 0) _ _ (omega arith) (λ c. small (8 * r + c)))

pub small-design : (d : Design) (cells : Cells) (tables : List ℕ) → ((x : ℕ) → get_or cells.issues x 0 < 256) → lawful_design d ≡ true → lawful_rows d cells tables ≡ true
    → Small (design_bytes d cells tables)
unfolding design_bytes
small-design d cells tables small h g =
    let p = parts d h in
    small-append _ _ (small-collect d.tables _ _ (λ i l e. small-table d p i l))
    (small-append _ _ (small-collect d.constraints _ _ (λ i l e. small-constraint d p i l))
    (small-append _ _ (small-collect d.fillings _ _ (λ i l e. small-filling d p i l))
    (small-append _ _ (small-collect 512 _ _ (small_row d p cells tables small g)) (small_one 5 [] (omega arith) small-none))))
