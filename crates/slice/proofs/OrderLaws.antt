-- The order of fetches: what `fetch_before` says, test by test, and that it is transitive where spans aren't empty. Assumes nothing.
use Prim.Native.Nat.{ℕ, zero, suc, ◌≤◌, ◌<◌}
use native.Mathlib.Omega.{arith}
use mathlib.Core.Path.{◌≡◌, refl, sym, ◌∙◌}
use mathlib.Core.Logic.{◌⊎◌, inl, inr, ⊎_elim}
use mathlib.Core.Bool.{true}
use borrow.Author.Tests.{eq-eqb, ne_eqb, ltb-true, lt-ltb}
use lib.Dec.{ltb}
use Rattle.finite.proofs.Bools.{cond-true, cond-false, same_number}
use Rattle.finite.proofs.Order.{lower-less, lower-cases, lower-trans, lower-apart, lower-alike, last-trans}
use Rattle.slice.specs.declared.fetch.Fetch.{Fetch}
use Rattle.slice.specs.Fetches.{end_before, fetch_before}

module _ (f g : Fetch) where
  -- ---- the code's tests

  pub end-span : (f.kind ≡ 0 → ⊥) → ltb f.end g.number ≡ end_before f g
  unfolding end_before
  end-span n = sym (cond-false _ _ _ (ne_eqb f.kind 0 n))

  pub end-number : f.kind ≡ 0 → (f.number ≡ g.number → ⊥) → ltb f.number g.number ≡ end_before f g
  unfolding end_before
  end-number e n = lower-apart f.number g.number (ltb f.end g.end) n ∙ sym (cond-true _ _ _ (eq-eqb f.kind 0 e))

  pub end-issue : f.kind ≡ 0 → f.number ≡ g.number → ltb f.end g.end ≡ end_before f g
  unfolding end_before
  end-issue e n = lower-alike f.number g.number (ltb f.end g.end) n ∙ sym (cond-true _ _ _ (eq-eqb f.kind 0 e))

  pub before-kind : (f.kind ≡ g.kind → ⊥) → ltb f.kind g.kind ≡ fetch_before f g
  unfolding fetch_before
  before-kind n = lower-apart _ _ _ n

  pub before-table : f.kind ≡ g.kind → (f.table ≡ g.table → ⊥) → ltb f.table g.table ≡ fetch_before f g
  unfolding fetch_before
  before-table k n = lower-apart _ _ _ n ∙ lower-alike f.kind g.kind _ k

  pub before-column : f.kind ≡ g.kind → f.table ≡ g.table → (f.column ≡ g.column → ⊥) → ltb f.column g.column ≡ fetch_before f g
  unfolding fetch_before
  before-column k t n = lower-apart _ _ _ n ∙ lower-alike f.table g.table _ t ∙ lower-alike f.kind g.kind _ k

  pub before-end : f.kind ≡ g.kind → f.table ≡ g.table → f.column ≡ g.column → end_before f g ≡ fetch_before f g
  unfolding fetch_before
  before-end k t c = lower-alike f.column g.column _ c ∙ lower-alike f.table g.table _ t ∙ lower-alike f.kind g.kind _ k

  -- ---- what it says

  pub kind-less : f.kind < g.kind → fetch_before f g ≡ true
  unfolding fetch_before
  kind-less l = lower-less _ _ _ l

  pub table-less : f.kind ≡ g.kind → f.table < g.table → fetch_before f g ≡ true
  table-less k l = sym (before-table k (λ e. omega arith)) ∙ lt-ltb _ _ l

  pub column-less : f.kind ≡ g.kind → f.table ≡ g.table → f.column < g.column → fetch_before f g ≡ true
  column-less k t l = sym (before-column k t (λ e. omega arith)) ∙ lt-ltb _ _ l

  -- where f stands before g, which is of the same kind
  pub same_kind : f.kind ≡ g.kind → fetch_before f g ≡ true →
      (f.table < g.table) ⊎ ((f.table ≡ g.table) × ((f.column < g.column) ⊎ ((f.column ≡ g.column) × (end_before f g ≡ true))))
  unfolding fetch_before
  same_kind k h =
      ⊎_elim (λ l. absurd (omega arith))
      (λ q. ⊎_elim inl (λ p. inr (p.0, lower-cases _ _ _ p.1)) (lower-cases _ _ _ q.1))
      (lower-cases f.kind g.kind _ h)

  pub kinds : fetch_before f g ≡ true → (f.kind < g.kind) ⊎ (f.kind ≡ g.kind)
  unfolding fetch_before
  kinds h = ⊎_elim inl (λ q. inr q.0) (lower-cases f.kind g.kind _ h)

  -- one span ends before the other begins
  pub end-less : 1 ≤ f.kind → end_before f g ≡ true → f.end < g.number
  end-less l h = ltb-true _ _ (end-span (λ e. omega arith) ∙ h)

  pub less-end : 1 ≤ f.kind → f.end < g.number → end_before f g ≡ true
  less-end l h = sym (end-span (λ e. omega arith)) ∙ lt-ltb _ _ h

-- ---- transitive

positive : (n : ℕ) → (n ≡ 0 → ⊥) → 1 ≤ n
positive zero h = absurd (h refl)
positive (suc n) h = omega arith

end-trans : (f g h : Fetch) → f.kind ≡ g.kind → (1 ≤ g.kind → g.number ≤ g.end) → end_before f g ≡ true → end_before g h ≡ true → end_before f h ≡ true
unfolding end_before
end-trans f g h k full a b = ⊎_elim zero-kind some-kind (same_number f.kind 0)
  where
    zero-kind : f.kind ≡ 0 → end_before f h ≡ true
    zero-kind e =
        cond-true _ _ _ (eq-eqb f.kind 0 e) ∙
        lower-trans f.number g.number h.number _ _ _ (last-trans f.end g.end h.end)
        (sym (cond-true _ _ _ (eq-eqb f.kind 0 e)) ∙ a) (sym (cond-true _ _ _ (eq-eqb g.kind 0 (sym k ∙ e))) ∙ b)

    some-kind : (f.kind ≡ 0 → ⊥) → end_before f h ≡ true
    some-kind n =
        let p : 1 ≤ f.kind = positive f.kind n in
        let q : 1 ≤ g.kind = omega arith in
        less-end f h p (omega (arith, end-less f g p a, end-less g h q b, full q))

-- f stands before h if it stands before g, which isn't an empty span and stands before h
pub before-trans : (f g h : Fetch) → (1 ≤ g.kind → g.number ≤ g.end) → fetch_before f g ≡ true → fetch_before g h ≡ true → fetch_before f h ≡ true
before-trans f g h full a b = go (kinds f g a) (kinds g h b)
  where
    inner : f.kind ≡ g.kind → g.kind ≡ h.kind →
        (f.table < g.table) ⊎ ((f.table ≡ g.table) × ((f.column < g.column) ⊎ ((f.column ≡ g.column) × (end_before f g ≡ true)))) →
        (g.table < h.table) ⊎ ((g.table ≡ h.table) × ((g.column < h.column) ⊎ ((g.column ≡ h.column) × (end_before g h ≡ true)))) → fetch_before f h ≡ true
    inner p q (inl l) (inl m) = table-less f h (p ∙ q) (omega arith)
    inner p q (inl l) (inr m) = table-less f h (p ∙ q) (omega (arith, m.0))
    inner p q (inr l) (inl m) = table-less f h (p ∙ q) (omega (arith, l.0))
    inner p q (inr l) (inr m) = columns l.1 m.1
      where
        columns : (f.column < g.column) ⊎ ((f.column ≡ g.column) × (end_before f g ≡ true)) → (g.column < h.column) ⊎ ((g.column ≡ h.column) × (end_before g h ≡ true)) →
            fetch_before f h ≡ true
        columns (inl x) (inl y) = column-less f h (p ∙ q) (l.0 ∙ m.0) (omega arith)
        columns (inl x) (inr y) = column-less f h (p ∙ q) (l.0 ∙ m.0) (omega (arith, y.0))
        columns (inr x) (inl y) = column-less f h (p ∙ q) (l.0 ∙ m.0) (omega (arith, x.0))
        columns (inr x) (inr y) = sym (before-end f h (p ∙ q) (l.0 ∙ m.0) (x.0 ∙ y.0)) ∙ end-trans f g h p full x.1 y.1

    go : (f.kind < g.kind) ⊎ (f.kind ≡ g.kind) → (g.kind < h.kind) ⊎ (g.kind ≡ h.kind) → fetch_before f h ≡ true
    go (inl l) (inl m) = kind-less f h (omega arith)
    go (inl l) (inr m) = kind-less f h (omega arith)
    go (inr l) (inl m) = kind-less f h (omega arith)
    go (inr p) (inr q) = inner p q (same_kind f g p a) (same_kind g h q b)
