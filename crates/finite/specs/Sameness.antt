-- Lists of any type with a test of sameness: whether an element is listed, its place, and the list without it. Assumes nothing.
use Rattle.std.specs.Prelude.{ℕ, suc, Bool, false, cond, ◌||◌, List, [], ◌∷◌}

module _ {A : Type 0} (same : A → A → Bool) where
  unfoldable pub listed : A → List A → Bool
  listed x [] = false
  listed x (y ∷ ys) = same y x || listed x ys

  -- the place of the first that is the same; the list's length where none is
  unfoldable pub place_of : A → List A → ℕ
  place_of x [] = 0
  place_of x (y ∷ ys) = cond (same y x) 0 (suc (place_of x ys))

  -- the first that is the same goes, and the gap closes
  unfoldable pub remove : A → List A → List A
  remove x [] = []
  remove x (y ∷ ys) = cond (same y x) ys (y ∷ remove x ys)
