-- The ranges of a held record one by one: what some of them passes. Assumes nothing.
use Prim.Native.Nat.{ℕ, zero, suc}
use mathlib.Core.Path.{◌≡◌, sym, ap, ◌∙◌}
use mathlib.Core.Bool.{Bool, ◌||◌}
use mathlib.Core.List.{List}
use Rattle.finite.specs.Finite.{any, tab}
use Rattle.finite.proofs.Search.{any-front, any_same, any-start}
use Rattle.model.specs.Ranges.{Range, some_range}
use Rattle.model.specs.Holding.{desks, all_ranges}
use Rattle.model.proofs.RangesHeld.{some-append}
use Rattle.state.specs.declared.held.DeskRanges.{DeskRanges}
use Rattle.state.specs.declared.held.Held.{Held}
use Rattle.state.specs.Held.{range_at, ranges_at}
use Rattle.state.specs.Meaning.{range_of, list_of, lists_of}

some-tab : (p : Range → Bool) (n : ℕ) (f : ℕ → Range) → some_range p (tab n f) ≡ any n (λ i. p (f i))
unfolding some_range tab
some-tab p zero f = sym (any-start _)
some-tab p (suc n) f = ap (λ (b : Bool). p (f 0) || b) (some-tab p n (λ i. f (suc i))) ∙ sym (any-front n (λ i. p (f i)))

all-tab : (p : Range → Bool) (n : ℕ) (g : ℕ → List Range) → some_range p (all_ranges (tab n g)) ≡ any n (λ e. some_range p (g e))
unfolding all_ranges tab
all-tab p zero g = unfold some_range in sym (any-start _)
all-tab p (suc n) g =
    some-append p (g 0) (all_ranges (tab n (λ e. g (suc e)))) ∙ ap (λ (b : Bool). some_range p (g 0) || b) (all-tab p n (λ e. g (suc e))) ∙
    sym (any-front n (λ e. some_range p (g e)))

-- some range of a desk passes the test
abbrev pub some_at : (Range → Bool) → DeskRanges → Bool
some_at p s = any s.count (λ i. p (range_of (range_at s i)))

-- a range of some desk does exactly if one of all of them does
pub ranges-any : (p : Range → Bool) (h : Held) → some_range p (all_ranges (lists_of h)) ≡ any desks (λ e. some_at p (ranges_at h e))
unfolding lists_of list_of
ranges-any p h =
    all-tab p desks (λ e. list_of (ranges_at h e)) ∙ any_same desks _ _ (λ e l. some-tab p (ranges_at h e).count (λ i. range_of (range_at (ranges_at h e) i)))
