-- The answers of REFER, DROP and PROBE along the order of causes, and what each leaves of the cache. Assumes nothing.
use Prim.Native.Nat.{ℕ}
use mathlib.Core.Path.{◌≡◌, refl, sym, ap, ◌∙◌}
use mathlib.Core.Bool.{Bool, true, false, not, ◌&&◌}
use lib.Dec.{ltb}
use Rattle.finite.proofs.Bools.{and_left, and_right, both, cond-true, cond-false}
use Rattle.finite.specs.Finite.{count}
use Rattle.model.specs.Cell.{Cell, numberless}
use Rattle.model.specs.Scheme.{Column, Scheme, is_column, candidate}
use Rattle.model.specs.Database.{Database}
use Rattle.model.specs.Rounds.{reached, added_rows, later_rounds}
use Rattle.model.specs.Holding.{Pair, holds, has_room, with_pair, without_pair, held_in}
use Rattle.model.specs.Runs.{Operation, refer, drop, ask, probe, taken, marks, marked, Cache, refer_levels, reload_levels, reloaded}
use Rattle.model.specs.Probe as Probe
use Rattle.model.specs.Answers.{Answer, loaded, held, no_candidate, dropped, refused, unless, or_answer, ground_of}
use Rattle.model.specs.Effects.{effect, cache_after, reply, answer}

-- ---- along the order of causes

-- the cause applies
pub stop : (b : Bool) (n : ℕ) (a : Answer) → b ≡ true → refused n ≡ unless b n a
stop b n a h = sym (ap (λ (c : Bool). unless c n a) h)

-- it does not
pub go : (b : Bool) (n : ℕ) (a : Answer) {r : Answer} → b ≡ false → r ≡ a → r ≡ unless b n a
go b n a h e = e ∙ sym (ap (λ (c : Bool). unless c n a) h)

pub first : (b : Bool) (x a : Answer) → b ≡ true → x ≡ or_answer b x a
first b x a h = sym (ap (λ (c : Bool). or_answer c x a) h)

pub second : (b : Bool) (x a : Answer) {r : Answer} → b ≡ false → r ≡ a → r ≡ or_answer b x a
second b x a h e = e ∙ sym (ap (λ (c : Bool). or_answer c x a) h)

-- the operation answers a and leaves the cache as it was
pub record Kept (S : Scheme) (D : Database) (c : Cache) (o : Operation) (a : Answer) : Type 0 where
  pub answers : a ≡ answer S D c o
  pub cache : cache_after S D c o ≡ c

-- ---- REFER

module _ (S : Scheme) (D : Database) (c : Cache) (p : Pair) where
  untaken : taken S c.held p ≡ false → cache_after S D c (refer p) ≡ c
  unfolding effect
  untaken e = cond-false (taken S c.held p) _ c e

  pub refer-nowhere : ltb p.filling S.fillings ≡ false → Kept S D c (refer p) (refused 5)
  unfolding effect taken
  refer-nowhere h = record { answers = stop _ 5 _ (ap not h); cache = untaken (and_left _ _ h) }

  module _ (f : ltb p.filling S.fillings ≡ true) where
    -- a value without a number, which is no candidate
    pub refer-numberless : numberless p.value ≡ true → candidate (S.filling p.filling) p.value ≡ false → Kept S D c (refer p) (refused 9)
    unfolding effect taken
    refer-numberless b n = record {
      answers = go _ 5 _ (ap not f) (stop _ 9 _ b);
      cache = untaken (and_right (ltb p.filling S.fillings) _ (and_left
          (candidate (S.filling p.filling) p.value) _ n));
    }

    module _ (b : numberless p.value ≡ false) where
      pub refer-none : candidate (S.filling p.filling) p.value ≡ false → Kept S D c (refer p) no_candidate
      unfolding effect taken
      refer-none n = record {
        answers = go _ 5 _ (ap not f) (go _ 9 _ b (first _ _ _ (ap not n)));
        cache = untaken (and_right (ltb p.filling
            S.fillings) _ (and_left (candidate (S.filling p.filling) p.value) _ n));
      }

      module _ (k : candidate (S.filling p.filling) p.value ≡ true) where
        pub refer-held : holds c.held p ≡ true → Kept S D c (refer p) held
        unfolding effect taken
        refer-held l =
            record {
              answers = go _ 5 _ (ap not f) (go _ 9 _ b (second _ _ _ (ap not k) (first _ _ _ l)));
              cache = untaken (and_right (ltb p.filling S.fillings) _ (and_right (candidate (S.filling p.filling) p.value) _ (and_left (not
                  (holds c.held p)) _ (ap not l))));
            }

        module _ (l : holds c.held p ≡ false) where
          pub refer-full : has_room c.held ≡ false → Kept S D c (refer p) (refused 8)
          unfolding effect taken
          refer-full r =
              record {
                answers = go _ 5 _ (ap not f) (go _ 9 _ b (second _ _ _ (ap not k) (second _ _ _ l (stop _ 8 _ (ap not r)))));
                cache = untaken (and_right (ltb p.filling S.fillings) _ (and_right (candidate (S.filling p.filling) p.value) _ (and_right (not
                    (holds c.held p)) _ r)));
              }

          module _ (r : has_room c.held ≡ true) where
            pub refer-loads : let L = refer_levels S D (marked c.marks) p in loaded (added_rows D L) (later_rounds D L) ≡ answer S D c (refer p)
            unfolding effect
            refer-loads = go _ 5 _ (ap not f) (go _ 9 _ b (second _ _ _ (ap not k) (second _ _ _ l (go _ 8 _ (ap not r) refl))))

            pub refer-leaves : cache_after S D c (refer p) ≡ record {
              held = with_pair c.held p;
              marks = marks D (reached (refer_levels S D (marked
                  c.marks) p));
            }
            unfolding effect taken
            refer-leaves = cond-true _ _ _ (both f (both k (both (ap not l) r)))

-- ---- DROP

module _ (S : Scheme) (D : Database) (c : Cache) (p : Pair) where
  unlisted : holds c.held p ≡ false → cache_after S D c (drop p) ≡ c
  unfolding effect
  unlisted e = cond-false (holds c.held p) _ c e

  -- no filling, and so not held
  pub drop-nowhere : ltb p.filling S.fillings ≡ false → holds c.held p ≡ false → Kept S D c (drop p) (refused 5)
  unfolding effect
  drop-nowhere h n = record { answers = stop _ 5 _ (ap not h); cache = unlisted n }

  module _ (f : ltb p.filling S.fillings ≡ true) where
    -- a value without a number, which is not held
    pub drop-numberless : numberless p.value ≡ true → holds c.held p ≡ false → Kept S D c (drop p) (refused 9)
    unfolding effect
    drop-numberless b n = record { answers = go _ 5 _ (ap not f) (stop _ 9 _ b); cache = unlisted n }

    module _ (b : numberless p.value ≡ false) where
      pub drop-none : holds c.held p ≡ false → Kept S D c (drop p) (refused 10)
      unfolding effect
      drop-none n = record { answers = go _ 5 _ (ap not f) (go _ 9 _ b (stop _ 10 _ (ap not n))); cache = unlisted n }

      module _ (l : holds c.held p ≡ true) where
        pub drop-drops : let L = reload_levels S D (without_pair c.held p) in dropped (count D.size (λ r. marked c.marks r && not
            (reached L r))) ≡ answer S D c (drop p)
        unfolding effect
        drop-drops = go _ 5 _ (ap not f) (go _ 9 _ b (go _ 10 _ (ap not l) refl))

        pub drop-leaves : cache_after S D c (drop p) ≡ reloaded S D (without_pair c.held p)
        unfolding effect
        drop-leaves = cond-true (holds c.held p) _ _ l

-- ---- PROBE

module _ (S : Scheme) (D : Database) (c : Cache) (k : Column) (v : Cell) where
  pub probe-nowhere : is_column S k ≡ false → refused 5 ≡ answer S D c (ask (probe k v))
  unfolding effect reply
  probe-nowhere h = stop _ 5 _ (ap not h)

  module _ (f : is_column S k ≡ true) where
    pub probe-numberless : numberless v ≡ true → refused 9 ≡ answer S D c (ask (probe k v))
    unfolding effect reply
    probe-numberless b = go _ 5 _ (ap not f) (stop _ 9 _ b)

    pub probe-full : numberless v ≡ false → ground_of (Probe.probe S D (held_in S c.held) (marked c.marks) k v) (Probe.cached_rows D (marked c.marks) k v) ≡
        answer S D c (ask (probe k v))
    unfolding effect reply
    probe-full b = go _ 5 _ (ap not f) (go _ 9 _ b refl)
