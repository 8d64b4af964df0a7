-- What a call tells of an answer determines it: the caller reads it off the word's number, the buffer and the count, whatever the answer. Assumes nothing.
use Prim.Native.Nat.{ℕ, ◌≤◌}
use native.Mathlib.Omega.{arith}
use mathlib.Core.Path.{◌≡◌, refl, sym, ap, ◌∙◌}
use mathlib.Core.List.{List}
use lib.ListN.{length, get_or, take, length-take}
use lib.Seq.{get_or-take}
use Rattle.finite.specs.Finite.{tab}
use Rattle.finite.proofs.Tables.{length-tab, tab-at, tab-of}
use Rattle.model.specs.Answers.{Answer, loaded, held, no_candidate, dropped, ground, sent, lists, refused, even, uneven, total, knot, named, opened, opened_by, no_opener, absent, explained, changed, shown}
use Rattle.state.specs.Meaning.{sixteen}
use Rattle.wurzsige.specs.Told.{Told, answer_in}

-- the first numbers of the buffer are the answer's
numbers-back : (ns : List ℕ) → length ns ≤ 16 → take (length ns) (sixteen ns) ≡ ns
numbers-back ns l =
    let f : ℕ → ℕ = λ i. get_or ns i 0 in
    tab-of 0 (length ns) f (take (length ns) (sixteen ns)) (omega (arith, length-take (length ns) (sixteen ns), length-tab 16 f))
    (λ i h. get_or-take (length ns) (sixteen ns) i 0 h ∙ tab-at 0 16 f i (omega arith)) ∙
    sym (tab-of 0 (length ns) f ns refl (λ i _. refl))

-- the reader reads each answer back
read_back : (a : Answer) → length (shown a).numbers ≤ 16 → answer_in (shown a).word (sixteen (shown a).numbers) (length (shown a).numbers) ≡ a
unfolding shown tab
read_back (loaded rows rounds) l = refl
read_back held l = refl
read_back no_candidate l = refl
read_back (dropped rows) l = refl
read_back (ground g rows) l = refl
read_back sent l = refl
read_back (lists n) l = refl
read_back (refused n) l = refl
read_back even l = refl
read_back (uneven i j) l = refl
read_back (total n) l = refl
read_back (knot ks) l = ap knot (numbers-back ks l)
read_back (named d) l = refl
read_back opened l = refl
read_back (opened_by f n i) l = refl
read_back no_opener l = refl
read_back absent l = refl
read_back (explained n) l = refl
read_back (changed came went) l = refl

module _ (a : Answer) (n : ℕ) (ns : List ℕ) (k : ℕ) (t : Told (shown a) n ns k) where
  -- THEOREM: what is told is the answer that a caller reads off it ..
  pub told-read : answer_in n ns k ≡ a
  told-read = (λ x. answer_in (t.number x) (t.numbers x) (t.count x)) ∙ read_back a t.few

  -- .. so no two answers are told alike
  pub told-once : (b : Answer) → Told (shown b) n ns k → a ≡ b
  told-once b u = sym told-read ∙ (λ x. answer_in (u.number x) (u.numbers x) (u.count x)) ∙ read_back b u.few
