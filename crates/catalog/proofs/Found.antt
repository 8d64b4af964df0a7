-- What is found at a value's place in the directory. Assumes nothing.
use Prim.Native.Nat.{ℕ, ◌+◌, ◌*◌, ◌≤◌, ◌<◌}
use native.Mathlib.Omega.{arith}
use mathlib.Core.Path.{◌≡◌, sym, ap, subst, ◌∙◌}
use mathlib.Core.Bool.{Bool, true, false, ◌&&◌, and-eq-true_iff}
use mathlib.Core.List.{List}
use borrow.Author.Tests.{ltb-true, eqb-true, lt-ltb, eq-eqb}
use lib.Dec.{eqb, ltb}
use lib.ListN.{get_or}
use Rattle.finite.proofs.Bools.{both, clash}
use Rattle.model.specs.Cell.{Cell}
use Rattle.model.specs.Database.{Database, has}
use Rattle.model.specs.Scheme as Model
use Rattle.finite.specs.Finite.{first_from}
use Rattle.catalog.specs.Catalog.{key_of, value_of, Falls, Lists, Directory}
use Rattle.catalog.specs.Listing.{Searched}
use Rattle.catalog.proofs.Searching.{searched-only}
use Rattle.catalog.proofs.KeyLaws.{value-is}
use Rattle.catalog.proofs.ListedLaws.{listed-hit, listed-miss}

-- ---- whether x stands at place a

module _ (b : Bool) (keys : List ℕ) (to a x : ℕ) (e : b ≡ ltb a to && eqb (get_or keys a 0) x) where
  pub stands_here : b ≡ true → (a < to) × (get_or keys a 0 ≡ x)
  stands_here h =
      let q = (and-eq-true_iff (ltb a to) (eqb (get_or keys a 0) x)).0 (sym e ∙ h) in
      (ltb-true a to q.0, eqb-true _ _ q.1)

  pub stands-below : b ≡ true → a < to
  stands-below h = (stands_here h).0

  pub stands-not : b ≡ false → a < to → get_or keys a 0 ≡ x → ⊥
  stands-not h l q = clash (e ∙ both (lt-ltb a to l) (eq-eqb _ _ q)) h

-- ---- column c of table t, between the places `from` and `to`

module _ (D : Database) (keys heads starts : List ℕ) (d : Directory D keys heads starts) (t c : ℕ) (p : t < 8) (q : c < 8) (to : ℕ)
    (z : to ≡ get_or starts (8 * t + c + 1) 0) where
  abbrev k : Model.Column
  k = record { table = t; place = c }

  pub find_none : (v : Cell) → 4096 < to → 512 ≡ first_from 512 (has D k v) 0
  find_none v h = absurd (omega (arith, (d.column t c p q).bound))

  -- place a is the seat of x, the value's key
  module _ (v : Cell) (x : ℕ) (key : (x ≡ key_of v) × (v.issue < 256)) (from a : ℕ) (y : from ≡ get_or starts (8 * t + c) 0)
      (s : from ≤ to → Falls from to keys → Searched from to x a a keys) (b : Bool) (e : b ≡ ltb a to && eqb (get_or keys a 0) x) where
    lists : Lists D k from to keys heads
    lists =
        subst (λ (n : ℕ). Lists D k n to keys heads) (sym y)
        (subst (λ (n : ℕ). Lists D k (get_or starts (8 * t + c) 0) n keys heads) (sym z) (d.column t c p q))

    seat-is : Searched from to x a a keys
    seat-is = s lists.order lists.falls

    same_first : first_from 512 (has D k (value_of x)) 0 ≡ first_from 512 (has D k v) 0
    same_first = ap (λ (w : Cell). first_from 512 (has D k w) 0) (value-is v x key)

    pub find-hit : (r : ℕ) → r ≡ get_or heads a 0 → b ≡ true → r ≡ first_from 512 (has D k v) 0
    find-hit r w h =
        let u = stands_here b keys to a x e h in
        w ∙ listed-hit D k 0 from to keys heads lists x a seat-is.start u.0 u.1 ∙ same_first

    pub find-miss : b ≡ false → 512 ≡ first_from 512 (has D k v) 0
    find-miss h =
        sym (listed-miss D k 0 from to keys heads lists x
        (λ i m n w. let o = searched-only from to x keys a lists.falls seat-is i m n w in
        stands-not b keys to a x e h (omega arith) (ap (λ (z : ℕ). get_or keys z 0) (sym o) ∙ w))) ∙ same_first

-- a place of the directory, said by the number of a column
pub start_by : (starts : List ℕ) (i j s : ℕ) → i ≡ j → s ≡ get_or starts i 0 → s ≡ get_or starts j 0
start_by starts i j s e h = h ∙ ap (λ (n : ℕ). get_or starts n 0) e
