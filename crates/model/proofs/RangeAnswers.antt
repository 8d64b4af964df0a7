-- The answers of a load and of a drop of a range along the order of causes, and what each leaves of the cache. Assumes nothing.
use mathlib.Core.Path.{◌≡◌, refl, ap}
use mathlib.Core.Bool.{true, false, not, ◌&&◌}
use Rattle.finite.proofs.Bools.{and_left, and_right, both, cond-true, cond-false}
use Rattle.finite.specs.Finite.{count}
use Rattle.model.specs.Scheme.{Scheme}
use Rattle.model.specs.Database.{Database}
use Rattle.model.specs.Rounds.{reached, added_rows, later_rounds}
use Rattle.model.specs.Ranges.{Range, is_range, only_candidates}
use Rattle.model.specs.Holding.{holds_range, covers_range, has_range_room, without_range}
use Rattle.model.specs.Runs.{refer_range, drop_range, range_taken, marked, Cache, range_levels, reload_levels, referred_range, reloaded}
use Rattle.model.specs.Answers.{loaded, held, no_candidate, dropped, refused}
use Rattle.model.specs.Effects.{effect, cache_after, answer}
use Rattle.model.proofs.Answering.{stop, go, first, second, Kept}

-- ---- a load

module _ (S : Scheme) (D : Database) (c : Cache) (r : Range) where
  untaken : range_taken S c.held r ≡ false → cache_after S D c (refer_range r) ≡ c
  unfolding effect
  untaken e = cond-false (range_taken S c.held r) _ c e

  pub range-nowhere : is_range S r ≡ false → Kept S D c (refer_range r) (refused 5)
  unfolding effect range_taken
  range-nowhere h = record { answers = stop _ 5 _ (ap not h); cache = untaken (and_left _ _ h) }

  module _ (f : is_range S r ≡ true) where
    pub range_none : only_candidates S r ≡ false → Kept S D c (refer_range r) no_candidate
    unfolding effect range_taken
    range_none n =
        record { answers = go _ 5 _ (ap not f) (first _ _ _ (ap not n)); cache = untaken (and_right (is_range S r) _ (and_left (only_candidates S r) _ n)) }

    module _ (k : only_candidates S r ≡ true) where
      pub range-held : covers_range c.held r ≡ true → Kept S D c (refer_range r) held
      unfolding effect range_taken
      range-held l =
          record {
            answers = go _ 5 _ (ap not f) (second _ _ _ (ap not k) (first _ _ _ l));
            cache = untaken (and_right (is_range S r) _ (and_right (only_candidates S r) _ (and_left (not (covers_range c.held r)) _ (ap not l))));
          }

      module _ (l : covers_range c.held r ≡ false) where
        pub range-full : has_range_room c.held r ≡ false → Kept S D c (refer_range r) (refused 8)
        unfolding effect range_taken
        range-full m =
            record {
              answers = go _ 5 _ (ap not f) (second _ _ _ (ap not k) (second _ _ _ l (stop _ 8 _ (ap not m))));
              cache = untaken (and_right (is_range S r) _ (and_right (only_candidates S r) _ (and_right (not (covers_range c.held r)) _ m)));
            }

        module _ (m : has_range_room c.held r ≡ true) where
          pub range-loads : let L = range_levels S D (marked c.marks) r in loaded (added_rows D L) (later_rounds D L) ≡ answer S D c (refer_range r)
          unfolding effect
          range-loads = go _ 5 _ (ap not f) (second _ _ _ (ap not k) (second _ _ _ l (go _ 8 _ (ap not m) refl)))

          pub range-leaves : cache_after S D c (refer_range r) ≡ referred_range S D c r
          unfolding effect range_taken
          range-leaves = cond-true _ _ _ (both f (both k (both (ap not l) m)))

-- ---- a drop

module _ (S : Scheme) (D : Database) (c : Cache) (r : Range) where
  unlisted : holds_range c.held r ≡ false → cache_after S D c (drop_range r) ≡ c
  unfolding effect
  unlisted e = cond-false (holds_range c.held r) _ c e

  -- operands that are wrong, and so no held range
  pub drop-range-nowhere : is_range S r ≡ false → holds_range c.held r ≡ false → Kept S D c (drop_range r) (refused 5)
  unfolding effect
  drop-range-nowhere h n = record { answers = stop _ 5 _ (ap not h); cache = unlisted n }

  module _ (f : is_range S r ≡ true) where
    pub drop-range-none : holds_range c.held r ≡ false → Kept S D c (drop_range r) (refused 10)
    unfolding effect
    drop-range-none n = record { answers = go _ 5 _ (ap not f) (stop _ 10 _ (ap not n)); cache = unlisted n }

    module _ (l : holds_range c.held r ≡ true) where
      pub drop-range-drops : let L = reload_levels S D (without_range c.held r) in
          dropped (count D.size (λ s. marked c.marks s && not (reached L s))) ≡ answer S D c (drop_range r)
      unfolding effect
      drop-range-drops = go _ 5 _ (ap not f) (go _ 10 _ (ap not l) refl)

      pub drop-range-leaves : cache_after S D c (drop_range r) ≡ reloaded S D (without_range c.held r)
      unfolding effect
      drop-range-leaves = cond-true (holds_range c.held r) _ _ l
