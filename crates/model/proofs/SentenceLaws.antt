-- Two different chains, or two rows, never give one sentence (02, Req 08 and 10). Assumes nothing.
use Prim.Native.Nat.{ℕ, ◌^◌, ◌≤◌, ◌<◌}
use native.Mathlib.Omega.{arith}
use mathlib.Core.Path.{◌≡◌, refl, sym, ap, subst, ◌∙◌}
use mathlib.Core.Logic.{◌⊎◌, inl, inr, ⊎_elim}
use mathlib.Core.Bool.{Bool, true, cond}
use mathlib.Core.List.{List, [], ◌++◌, append_assoc, append-nil}
use borrow.Author.Tests.{eq-eqb, ne_eqb}
use lib.ListN.{get_or, drop}
use Rattle.finite.specs.Decimal.{spaced}
use Rattle.finite.proofs.Bools.{same_number}
use Rattle.finite.proofs.Reading.{Stops, stops_end, stops-space, decimal-once}
use Rattle.model.specs.Cell.{Fits}
use Rattle.model.specs.Scheme.{Scheme}
use Rattle.model.specs.Database.{Database, Lawful}
use Rattle.model.specs.Ranges.{Range}
use Rattle.model.specs.Holding.{Pair, Holding}
use Rattle.model.specs.Reason.{Origin, by_value, by_range, Chain, by_held, by_constraint, is_held, has_origin, Explains}
use Rattle.model.specs.Sentence.{by-constraint, from_row, by-value, issue-word, by-range, to_word, of-filling, issue_text, cell_text, origin_text, link_text, chain_text, sentence}
use Rattle.model.proofs.CellLaws.{equal-same}
use Rattle.model.proofs.DatabaseLaws.{has-Has}
use Rattle.model.proofs.HoldingLaws.{HoldingFits, held-fits, some-range-fits}
use Rattle.model.proofs.ReasonLaws.{leads-live}

-- the numbers of a chain are below 2 ^ 64, so that they can be written
unfoldable pub Writable : Chain → Type 0
Writable (by_held (by_value p)) = (p.filling < 2 ^ 64) × (p.value.number < 2 ^ 64) × (p.value.issue < 2 ^ 64)
Writable (by_held (by_range q)) = (q.filling < 2 ^ 64) × (q.low < 2 ^ 64) × (q.high < 2 ^ 64)
Writable (by_constraint i s c) = (i < 2 ^ 64) × (s < 2 ^ 64) × Writable c

-- ---- a number, then a text that begins with no digit

spaced-once : (n m : ℕ) (xs ys : List ℕ) → n < 2 ^ 64 → m < 2 ^ 64 → Stops xs → Stops ys → spaced n ++ xs ≡ spaced m ++ ys → (n ≡ m) × (xs ≡ ys)
spaced-once n m xs ys a b s t e = decimal-once n m xs ys a b s t (ap (drop 1) e)

-- ---- the end of a sentence

issued : ℕ → List ℕ → List ℕ
issued k xs = issue_text k ++ (of-filling ++ xs)

issued-none : (k : ℕ) (xs : List ℕ) → k ≡ 0 → issued k xs ≡ of-filling ++ xs
unfolding issued issue_text
issued-none k xs e = ap (λ (b : Bool). cond b [] (issue-word ++ spaced k) ++ (of-filling ++ xs)) (eq-eqb k 0 e)

issued-some : (k : ℕ) (xs : List ℕ) → (k ≡ 0 → ⊥) → issued k xs ≡ issue-word ++ (spaced k ++ (of-filling ++ xs))
unfolding issued issue_text
issued-some k xs n = ap (λ (b : Bool). cond b [] (issue-word ++ spaced k) ++ (of-filling ++ xs)) (ne_eqb k 0 n)

issued-stops : (k : ℕ) (xs : List ℕ) → Stops (issued k xs)
issued-stops k xs =
    ⊎_elim (λ e. subst Stops (sym (issued-none k xs e)) (stops-space _)) (λ n. subst Stops (sym (issued-some k xs n)) (stops-space _)) (same_number k 0)

issued-once : (k l : ℕ) (xs ys : List ℕ) → k < 2 ^ 64 → l < 2 ^ 64 → issued k xs ≡ issued l ys → (k ≡ l) × (xs ≡ ys)
issued-once k l xs ys a b e = go (same_number k 0) (same_number l 0)
  where
    go : (k ≡ 0) ⊎ (k ≡ 0 → ⊥) → (l ≡ 0) ⊎ (l ≡ 0 → ⊥) → (k ≡ l) × (xs ≡ ys)
    go (inl p) (inl q) = (p ∙ sym q, ap (drop 11) (sym (issued-none k xs p) ∙ e ∙ issued-none l ys q))
    go (inl p) (inr q) = absurd (let z : ◌≡◌ {A = ℕ} 111 105 = ap (λ (zs : List ℕ). get_or zs 1 0) (sym (issued-none k xs p) ∙ e ∙ issued-some l ys q) in omega arith)
    go (inr p) (inl q) = absurd (let z : ◌≡◌ {A = ℕ} 105 111 = ap (λ (zs : List ℕ). get_or zs 1 0) (sym (issued-some k xs p) ∙ e ∙ issued-none l ys q) in omega arith)
    go (inr p) (inr q) =
        let w = spaced-once k l (of-filling ++ xs) (of-filling ++ ys) a b (stops-space _) (stops-space _) (ap (drop 6) (sym (issued-some k xs p) ∙ e ∙ issued-some l ys q)) in
        (w.0, ap (drop 11) w.1)

-- the parts of the text of a held pair
pair_parts : (o : Pair) → origin_text (by_value o) ≡ by-value ++ (spaced o.value.number ++ issued o.value.issue (spaced o.filling))
unfolding origin_text cell_text issued
pair_parts o = ap (λ (xs : List ℕ). by-value ++ xs) (append_assoc (spaced o.value.number) (issue_text o.value.issue) (of-filling ++ spaced o.filling))

-- and of a held range
range-parts : (q : Range) → origin_text (by_range q) ≡ by-range ++ (spaced q.low ++ (to_word ++ (spaced q.high ++ (of-filling ++ spaced q.filling))))
unfolding origin_text
range-parts q = refl

filling-once : (f g : ℕ) → f < 2 ^ 64 → g < 2 ^ 64 → spaced f ≡ spaced g → f ≡ g
filling-once f g a b e = (spaced-once f g [] [] a b stops_end stops_end (append-nil (spaced f) ∙ e ∙ sym (append-nil (spaced g)))).0

origin-once : (o q : Origin) → Writable (by_held o) → Writable (by_held q) → origin_text o ≡ origin_text q → o ≡ q
unfolding Writable
origin-once (by_value o) (by_value q) a b e =
    let n =
    spaced-once o.value.number q.value.number _ _ a.1 b.1 (issued-stops _ _) (issued-stops _ _) (ap (drop 9) (sym (pair_parts o) ∙ e ∙ pair_parts q)) in
    let k = issued-once o.value.issue q.value.issue _ _ a.2 b.2 n.1 in
    let f = filling-once o.filling q.filling a.0 b.0 k.1 in
    λ i. by_value (record { filling = f i; value = record { number = n.0 i; issue = k.0 i } })
origin-once (by_value o) (by_range q) a b e =
    absurd (let z : ◌≡◌ {A = ℕ} 118 114 = ap (λ (zs : List ℕ). get_or zs 4 0) (sym (pair_parts o) ∙ e ∙ range-parts q) in omega arith)
origin-once (by_range o) (by_value q) a b e =
    absurd (let z : ◌≡◌ {A = ℕ} 114 118 = ap (λ (zs : List ℕ). get_or zs 4 0) (sym (range-parts o) ∙ e ∙ pair_parts q) in omega arith)
origin-once (by_range o) (by_range q) a b e =
    let l = spaced-once o.low q.low _ _ a.1 b.1 (stops-space _) (stops-space _) (ap (drop 9) (sym (range-parts o) ∙ e ∙ range-parts q)) in
    let h = spaced-once o.high q.high _ _ a.2 b.2 (stops-space _) (stops-space _) (ap (drop 3) l.1) in
    let f = filling-once o.filling q.filling a.0 b.0 (ap (drop 11) h.1) in
    λ i. by_range (record { filling = f i; low = l.0 i; high = h.0 i })

-- ---- chains

-- what stands behind a number begins with a space
chain-stops : (c : Chain) → Stops (chain_text c)
unfolding chain_text link_text
chain-stops (by_held (by_value o)) = subst Stops (sym (pair_parts o)) (stops-space _)
chain-stops (by_held (by_range q)) = subst Stops (sym (range-parts q)) (stops-space _)
chain-stops (by_constraint i s c) = stops-space _

link-parts : (i s : ℕ) (xs : List ℕ) → link_text i s ++ xs ≡ by-constraint ++ (spaced i ++ (from_row ++ (spaced s ++ xs)))
unfolding link_text
link-parts i s xs = ap (λ (ys : List ℕ). by-constraint ++ ys) (append_assoc (spaced i) (from_row ++ spaced s) xs)

-- a chain that ends is no longer one
ends-apart : (o : Origin) (i s : ℕ) (xs : List ℕ) → origin_text o ≡ link_text i s ++ xs → ⊥
ends-apart (by_value o) i s xs e =
    let z : ◌≡◌ {A = ℕ} 118 99 = ap (λ (zs : List ℕ). get_or zs 4 0) (sym (pair_parts o) ∙ e ∙ link-parts i s xs) in omega arith
ends-apart (by_range q) i s xs e =
    let z : ◌≡◌ {A = ℕ} 114 99 = ap (λ (zs : List ℕ). get_or zs 4 0) (sym (range-parts q) ∙ e ∙ link-parts i s xs) in omega arith

chain-once : (c e : Chain) → Writable c → Writable e → chain_text c ≡ chain_text e → c ≡ e
unfolding chain_text Writable
chain-once (by_held o) (by_held q) a b w = ap by_held (origin-once o q a b w)
chain-once (by_held o) (by_constraint j t e) a b w = absurd (ends-apart o j t (chain_text e) w)
chain-once (by_constraint i s c) (by_held q) a b w = absurd (ends-apart q i s (chain_text c) (sym w))
chain-once (by_constraint i s c) (by_constraint j t e) a b w =
    let n =
    spaced-once i j _ _ a.0 b.0 (stops-space _) (stops-space _) (ap (drop 14) (sym (link-parts i s (chain_text c)) ∙ w ∙ link-parts j t (chain_text e))) in
    let m = spaced-once s t (chain_text c) (chain_text e) a.1 b.1 (chain-stops c) (chain-stops e) (ap (drop 9) n.1) in
    let ih = chain-once c e a.2 b.2 m.1 in
    λ x. by_constraint (n.0 x) (m.0 x) (ih x)

pub sentence-once : (r s : ℕ) (c e : Chain) → r < 2 ^ 64 → s < 2 ^ 64 → Writable c → Writable e → sentence r c ≡ sentence s e → (r ≡ s) × (c ≡ e)
unfolding sentence
sentence-once r s c e l m a b w =
    let n = spaced-once r s (chain_text c) (chain_text e) l m (chain-stops c) (chain-stops e) (ap (drop 3) w) in
    (n.0, chain-once c e a b n.1)

-- ---- chains that explain a row

-- numbers of constraints, fillings, rows and candidates that can be written: those of a design are far below
pub record Counts (S : Scheme) (D : Database) : Type 0 where
  pub constraints : S.constraints ≤ 2 ^ 64
  pub fillings : S.fillings ≤ 2 ^ 64
  pub rows : D.size ≤ 2 ^ 64
  pub candidates : (f : ℕ) → f < S.fillings → (S.filling f).high < 2 ^ 64

-- a chain that explains a row of a lawful database can be written
explained-writable : (S : Scheme) (D : Database) (h : Holding) → Counts S D → Lawful S D → HoldingFits S h → (r : ℕ) (c : Chain) → Explains S D h r c → Writable c
unfolding Explains Writable is_held has_origin
explained-writable S D h n lawful fits r (by_held (by_value o)) e =
    let v = has-Has D _ _ r e.1 in
    let q = subst Fits (equal-same _ o.value v.value) (lawful.cells r _ v.live) in
    let f = held-fits S h fits o e.0 in
    (omega (arith, n.fillings), omega (arith, q.number), omega (arith, q.issue))
explained-writable S D h n lawful fits r (by_held (by_range q)) e =
    let f = some-range-fits S h fits q e.0 in
    let l = n.candidates q.filling f.filling in
    (omega (arith, n.fillings, f.filling), omega (arith, f.full, f.high), omega (arith, f.high))
explained-writable S D h n lawful fits r (by_constraint i s c) e =
    (omega (arith, e.0, n.constraints), omega (arith, D.finite s (leads-live D _ s r e.1), n.rows), explained-writable S D h n lawful fits s c e.2)

-- "two different chains never give one sentence"
pub reasons-apart : (S : Scheme) (D : Database) (h : Holding) → Counts S D → Lawful S D → HoldingFits S h → (r s : ℕ) (c e : Chain) →
    D.live r ≡ true → D.live s ≡ true → Explains S D h r c → Explains S D h s e → sentence r c ≡ sentence s e → (r ≡ s) × (c ≡ e)
reasons-apart S D h n lawful fits r s c e l m a b w =
    sentence-once r s c e (omega (arith, D.finite r l, n.rows)) (omega (arith, D.finite s m, n.rows)) (explained-writable S D h n lawful fits r c a)
    (explained-writable S D h n lawful fits s e b) w
