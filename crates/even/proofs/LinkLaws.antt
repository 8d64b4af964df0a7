-- Links between tables, entered into an eight by eight array one after the other. Assumes nothing.
use Prim.Native.Nat.{ℕ, ◌+◌, ◌≤◌, ◌<◌}
use native.Mathlib.Omega.{arith}
use mathlib.Core.Path.{◌≡◌, refl, sym, ap, ap₂, subst, ◌∙◌}
use mathlib.Core.Logic.{⊎_elim}
use mathlib.Core.Bool.{Bool, true, false, ◌&&◌, ◌||◌, and-eq-true_iff}
use mathlib.Core.List.{List, []}
use borrow.Author.Tests.{eq-eqb, ne_eqb, eqb-true, lt-ltb, le-ltb, ltb-true}
use lib.Dec.{eqb, ltb}
use lib.ListN.{get_or, set, length-set, replicate}
use lib.Seq.{get_or-set_same, get_or-set_other}
use Rattle.finite.specs.Finite.{any, tab}
use Rattle.finite.proofs.Bools.{dec, both, clash, refute, same_number, and_left, and_right, cond-true, cond-false, or-none, or-second}
use Rattle.finite.proofs.Search.{any-start, any-suc}
use Rattle.finite.proofs.Tables.{length-tab, tab-at, tab-of, tab-same, replicate-tab}
use Rattle.model.specs.Scheme.{Scheme}
use Rattle.model.specs.Even.{linked, square}
use Rattle.state.specs.declared.design.Constraint.{Constraint}
use Rattle.state.specs.declared.design.Design.{Design}
use Rattle.state.specs.Design.{no_constraint}
use Rattle.state.specs.Meaning.{scheme_of}
use Rattle.even.specs.Reading.{with_link, linked_by, Laid}

or_assoc : (a b c : Bool) → a || (b || c) ≡ (a || b) || c
or_assoc true b c = refl
or_assoc false b c = refl

-- ---- a table by itself

pub own_row : (t : ℕ) → t < 8 → set (replicate 8 false) t true ≡ tab 8 (eqb t)
own_row t l =
    tab-of false 8 (eqb t) (set (replicate 8 false) t true) (length-set (replicate 8 false) t true)
    (λ u h.
    ⊎_elim
    (λ (e : u ≡ t).
    subst (λ (x : ℕ). get_or (set (replicate 8 false) t true) x false ≡ eqb t x) (sym e) (get_or-set_same (replicate 8 false) t true false l ∙ sym (eq-eqb t t refl)))
    (λ (n : u ≡ t → ⊥).
    get_or-set_other (replicate 8 false) t u true false n ∙ ap (λ (xs : List Bool). get_or xs u false) (replicate-tab 8 false) ∙ tab-at false 8 (λ _. false) u h ∙
    sym (ne_eqb t u (λ e. n (sym e))))
    (same_number u t))

-- ---- a link

module _ (m : List (List Bool)) (s t : ℕ) where
  pub link-from-none : 8 ≤ s → m ≡ with_link m s t
  unfolding with_link
  link-from-none l = sym (cond-false (ltb s 8 && ltb t 8) _ _ (and_left (ltb s 8) (ltb t 8) (le-ltb s 8 l)))

  pub link-to-none : 8 ≤ t → m ≡ with_link m s t
  unfolding with_link
  link-to-none l = sym (cond-false (ltb s 8 && ltb t 8) _ _ (and_right (ltb s 8) (ltb t 8) (le-ltb t 8 l)))

  pub link_here : s < 8 → t < 8 → set m s (set (get_or m s []) t true) ≡ with_link m s t
  unfolding with_link
  link_here a b = sym (cond-true (ltb s 8 && ltb t 8) _ _ (both (lt-ltb s 8 a) (lt-ltb t 8 b)))

module _ (f g : ℕ → ℕ → Bool) (s t : ℕ) (grown : (x y : ℕ) → g x y ≡ f x y || (eqb s x && eqb t y)) where
  kept_at : (x y : ℕ) → ((s ≡ x) × (t ≡ y) → ⊥) → f x y ≡ g x y
  kept_at x y n =
      sym (grown x y ∙ or-none (f x y) (eqb s x && eqb t y)
      (refute (eqb s x && eqb t y) (λ e. let a = (and-eq-true_iff (eqb s x) (eqb t y)).0 e in n (eqb-true _ _ a.0, eqb-true _ _ a.1))))

  met_at : true ≡ g s t
  met_at = sym (grown s t ∙ or-second (f s t) (eqb s s && eqb t t) (both (eq-eqb s s refl) (eq-eqb t t refl)))

  grown-row : s < 8 → t < 8 → set (get_or (square f) s []) t true ≡ tab 8 (g s)
  grown-row a b =
      ap (λ (xs : List Bool). set xs t true) (tab-at [] 8 (λ x. tab 8 (f x)) s a) ∙
      tab-of false 8 (g s) (set (tab 8 (f s)) t true) (length-set (tab 8 (f s)) t true ∙ length-tab 8 (f s))
      (λ y h.
      ⊎_elim
      (λ (e : y ≡ t).
      subst (λ (z : ℕ). get_or (set (tab 8 (f s)) t true) z false ≡ g s z) (sym e) (get_or-set_same (tab 8 (f s)) t true false (omega (arith, length-tab 8 (f s))) ∙ met_at))
      (λ (n : y ≡ t → ⊥). get_or-set_other (tab 8 (f s)) t y true false n ∙ tab-at false 8 (f s) y h ∙ kept_at s y (λ p. n (sym p.1)))
      (same_number y t))

  grown-inside : s < 8 → t < 8 → set (square f) s (set (get_or (square f) s []) t true) ≡ square g
  grown-inside a b =
      tab-of [] 8 (λ x. tab 8 (g x)) (set (square f) s (set (get_or (square f) s []) t true))
      (length-set (square f) s (set (get_or (square f) s []) t true) ∙ length-tab 8 (λ x. tab 8 (f x)))
      (λ x h.
      ⊎_elim
      (λ (e : x ≡ s).
      subst (λ (z : ℕ). get_or (set (square f) s (set (get_or (square f) s []) t true)) z [] ≡ tab 8 (g z)) (sym e)
      (get_or-set_same (square f) s (set (get_or (square f) s []) t true) [] (omega (arith, length-tab 8 (λ x. tab 8 (f x)))) ∙ grown-row a b))
      (λ (n : x ≡ s → ⊥).
      get_or-set_other (square f) s x (set (get_or (square f) s []) t true) [] n ∙ tab-at [] 8 (λ z. tab 8 (f z)) x h ∙ tab-same 8 (f x) (g x) (λ y _. kept_at x y (λ p. n (sym p.0))))
      (same_number x s))

  outside : (s < 8 → t < 8 → ⊥) → square f ≡ square g
  outside n = tab-same 8 _ _ (λ x a. tab-same 8 (f x) (g x) (λ y b. kept_at x y (λ p. n (omega (arith, p.0)) (omega (arith, p.1)))))

  linked-square : with_link (square f) s t ≡ square g
  unfolding with_link
  linked-square =
      ⊎_elim
      (λ (e : ltb s 8 && ltb t 8 ≡ true).
      let a = (and-eq-true_iff (ltb s 8) (ltb t 8)).0 e in
      cond-true (ltb s 8 && ltb t 8) _ _ e ∙ grown-inside (ltb-true s 8 a.0) (ltb-true t 8 a.1))
      (λ (e : ltb s 8 && ltb t 8 ≡ false).
      cond-false (ltb s 8 && ltb t 8) _ _ e ∙ outside (λ a b. clash (both (lt-ltb s 8 a) (lt-ltb t 8 b)) e))
      (dec (ltb s 8 && ltb t 8))

-- ---- one constraint after the other

module _ (S : Scheme) where
  pub links-none : square eqb ≡ square (linked_by S 0)
  unfolding linked_by
  links-none = tab-same 8 _ _ (λ t _. tab-same 8 (eqb t) (linked_by S 0 t) (λ u _. sym (or-none (eqb t u) _ (any-start _))))

  pub links-more : (n : ℕ) (cs : List Constraint) → Laid S n cs → (i : ℕ) (m m' : List (List Bool)) → m ≡ square (linked_by S i) →
      m' ≡ with_link m (get_or cs i no_constraint).source.table (get_or cs i no_constraint).target.table → m' ≡ square (linked_by S (i + 1))
  unfolding linked_by
  links-more n cs l i m m' h e =
      e ∙ ap₂ (λ (x : List (List Bool)) c. with_link x c.source.table c.target.table) h (sym (l.at i)) ∙
      linked-square (linked_by S i) (linked_by S (i + 1)) (S.constraint i).source.table (S.constraint i).target.table
      (λ t u. ap (λ (b : Bool). eqb t u || b) (any-suc i (λ j. eqb (S.constraint j).source.table t && eqb (S.constraint j).target.table u)) ∙
      or_assoc (eqb t u) (any i (λ j. eqb (S.constraint j).source.table t && eqb (S.constraint j).target.table u))
      (eqb (S.constraint i).source.table t && eqb (S.constraint i).target.table u))

  pub links_end : (i n : ℕ) (m : List (List Bool)) → n ≡ S.constraints → i ≤ n → n ≤ i → m ≡ square (linked_by S i) → m ≡ square (linked S)
  unfolding linked linked_by
  links_end i n m z a b e = let q : i ≡ S.constraints = omega arith in e ∙ ap (λ (k : ℕ). square (linked_by S k)) q

pub laid : (d : Design) → Laid (scheme_of d) d.constraints d.constraint
unfolding scheme_of
laid d = record { count = refl; at = λ i. refl }
