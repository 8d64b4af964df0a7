-- One row is put in, and all are. Assumes nothing.
use Prim.Native.Nat.{ℕ, ◌+◌, ◌*◌, ◌≤◌, ◌<◌}
use native.Mathlib.Omega.{arith}
use mathlib.Core.Path.{◌≡◌, refl, sym, ap, subst, ◌∙◌}
use mathlib.Core.Bool.{Bool, true, false, cond}
use mathlib.Core.List.{List}
use mathlib.Core.Logic.{◌⊎◌, inl, inr}
use borrow.Author.Tests.{eq-eqb}
use lib.ListN.{length, get_or, set, length-set}
use lib.Seq.{get_or-set_same, get_or-set_other}
use Rattle.finite.specs.Finite.{count}
use Rattle.finite.proofs.Bools.{same_number, clash}
use Rattle.finite.proofs.Counting.{count-suc}
use Rattle.finite.proofs.Skipping.{onward}
use Rattle.model.specs.Cell.{Cell, is_blank}
use Rattle.model.specs.Database.{Database, has}
use Rattle.model.specs.Scheme as Model
use Rattle.catalog.specs.Catalog.{next_of, key_of, value_of, Listed}
use Rattle.catalog.specs.Listing.{Entered, in_table, Put, Added}
use Rattle.catalog.proofs.KeyLaws.{value-is}
use Rattle.catalog.proofs.ListedLaws.{listed-pass, listed-none, entered-listed, entered-next}
use Rattle.catalog.proofs.Rows.{has-dead, has-elsewhere, has-blank, next-none}
use Rattle.catalog.proofs.CatalogLaws.{next-has}

-- ---- counting

count-grows : (n : ℕ) (p : ℕ → Bool) → count n p ≤ count (n + 1) p
count-grows n p = omega (arith, count-suc n p)

count-one : (n : ℕ) (p : ℕ → Bool) → p n ≡ true → count (n + 1) p ≡ count n p + 1
count-one n p e = count-suc n p ∙ ap (λ (b : Bool). count n p + cond b 1 0) e

pub count-longer : (n m : ℕ) (p : ℕ → Bool) → n ≤ m → count n p ≤ count m p
count-longer n m p l = onward (λ k. count n p ≤ count k p) n m l (λ k a b h. omega (arith, count-grows k p)) (omega arith)

-- a row of the table needs a place
pub put-room : (D : Database) (t r m : ℕ) → D.table r ≡ t → m + count (r + 1) (in_table D t) ≤ 4096 → m < 4096
put-room D t r m e b = omega (arith, count-one r (in_table D t) (eq-eqb _ _ e))

-- ---- one store

module _ (r p n : ℕ) (next : List ℕ) (l : r < 512) (q : p < 8) (long : length next ≡ 4096) where
  pub store-own : get_or (set next (8 * r + p) n) (8 * r + p) 0 ≡ n
  store-own = get_or-set_same next (8 * r + p) n 0 (omega arith)

  pub store_other : (s c : ℕ) → c < 8 → ((c ≡ p) × (s ≡ r) → ⊥) → get_or (set next (8 * r + p) n) (8 * s + c) 0 ≡ get_or next (8 * s + c) 0
  store_other s c h ne = get_or-set_other next (8 * r + p) (8 * s + c) n 0 (λ e. ne (omega arith, omega arith))

-- ---- row r

module _ (D : Database) (t p r from m : ℕ) (keys heads next : List ℕ) where
  abbrev k : Model.Column
  k = record { table = t; place = p }

  module _ (listed : Listed D k (r + 1) from m keys heads) where
    pub put-elsewhere : (D.table r ≡ t → ⊥) → Put D k r from m keys heads next m keys heads next
    put-elsewhere h =
        record {
          listed = listed-pass D k r from m keys heads listed (has-elsewhere D t p r h);
          room = omega (arith, count-grows r (in_table D t));
          keys-long = refl;
          heads-long = refl;
          next-long = refl;
          keys_kept = λ i l. refl;
          heads-kept = λ i l. refl;
          own = λ e. absurd (h e);
          others = λ s c l ne. refl;
        }

    module _ (l : r < 512) (q : p < 8) (long : length next ≡ 4096) (e : D.table r ≡ t) where
      pub put-blank : is_blank (D.cell r p) ≡ true → Put D k r from m keys heads next m keys heads (set next (8 * r + p) 512)
      put-blank h =
          record {
            listed = listed-pass D k r from m keys heads listed (has-blank D t p r h);
            room = omega (arith, count-grows r (in_table D t));
            keys-long = refl;
            heads-long = refl;
            next-long = length-set next _ 512;
            keys_kept = λ i l. refl;
            heads-kept = λ i l. refl;
            own = λ _. store-own r p 512 next l q long ∙ sym (next-none D t p r e (has-blank D t p r h));
            others = λ s c u ne. store_other r p 512 next l q long s c u (λ w. ne (e, w.0, w.1));
          }

      -- x is the value's key
      pub put-entered : (v : Cell) (x to n : ℕ) (keys' heads' : List ℕ) → (x ≡ key_of v) × (v.issue < 256) → has D k v r ≡ true
          → m + count (r + 1) (in_table D t) ≤ 4096
          → length keys ≡ 4096 → length heads ≡ 4096 → Entered x r from m keys heads keys' heads' to n
          → Put D k r from m keys heads next to keys' heads' (set next (8 * r + p) n)
      put-entered v x to n keys' heads' key h b kl hl w =
          record {
            listed = entered-listed D k r from m keys heads listed x l has_key keys' heads' to n (omega (arith, one)) hl w;
            room = omega (arith, one, entered-to w);
            keys-long = entered-keys w;
            heads-long = entered-heads w;
            next-long = length-set next _ n;
            keys_kept = λ i u. entered-keys-kept w i u;
            heads-kept = λ i u. entered-heads-kept w i u;
            own = λ _. store-own r p n next l q long ∙ entered-next D k r from m keys heads listed x l has_key keys' heads' to n w ∙ sym (next-has D k (value_of x) r has_key);
            others = λ s c u ne. store_other r p n next l q long s c u (λ z. ne (e, z.0, z.1));
          }
        where
          has_key : has D k (value_of x) r ≡ true
          has_key = ap (λ (w : Cell). has D k w r) (value-is v x key) ∙ h

          one : count (r + 1) (in_table D t) ≡ count r (in_table D t) + 1
          one = count-one r (in_table D t) (eq-eqb _ _ e)

          entered-to : Entered x r from m keys heads keys' heads' to n → to ≤ m + 1
          entered-to (inl w) = omega (arith, w.to_is)
          entered-to (inr w) = omega (arith, w.to_is)

          entered-keys : Entered x r from m keys heads keys' heads' to n → length keys' ≡ length keys
          entered-keys (inl w) = ap length w.keys-are
          entered-keys (inr w) = w.keys-are.moves.long

          entered-heads : Entered x r from m keys heads keys' heads' to n → length heads' ≡ length heads
          entered-heads (inl w) = ap length w.heads-are ∙ length-set heads w.at r
          entered-heads (inr w) = w.heads-are.moves.long

          entered-keys-kept : Entered x r from m keys heads keys' heads' to n → (i : ℕ) → i < from → get_or keys' i 0 ≡ get_or keys i 0
          entered-keys-kept (inl w) i u = ap (λ (ys : List ℕ). get_or ys i 0) w.keys-are
          entered-keys-kept (inr w) i u = w.keys-are.moves.below i (omega (arith, w.seat.start))

          entered-heads-kept : Entered x r from m keys heads keys' heads' to n → (i : ℕ) → i < from → get_or heads' i 0 ≡ get_or heads i 0
          entered-heads-kept (inl w) i u =
              ap (λ (ys : List ℕ). get_or ys i 0) w.heads-are ∙ get_or-set_other heads w.at i r 0 (λ z. omega (arith, w.start))
          entered-heads-kept (inr w) i u = w.heads-are.moves.below i (omega (arith, w.seat.start))

-- ---- the rows from the last to the first

module _ (D : Database) (t p from : ℕ) (keys heads next : List ℕ) where
  abbrev column : Model.Column
  column = record { table = t; place = p }

  -- from r on there are none
  pub added_none : (r : ℕ) → r ≤ 512 → from + count 512 (in_table D t) ≤ 4096 → ((s : ℕ) → r ≤ s → D.live s ≡ false)
      → Added D column r from keys heads next from keys heads next
  added_none r l b dead =
      record {
        listed = listed-none D column r from keys heads (omega arith) (λ s h v. has-dead D t p s (dead s h) v);
        room = omega (arith, count-longer r 512 (in_table D t) l);
        keys-long = refl;
        heads-long = refl;
        next-long = refl;
        keys_kept = λ i l. refl;
        heads-kept = λ i l. refl;
        done = λ s a b e. clash b (dead s a);
        others = λ s c l ne. refl;
      }

  module _ (q r m : ℕ) (keys₁ heads₁ next₁ : List ℕ) (x : Added D column q from keys heads next m keys₁ heads₁ next₁) (e : q ≡ r + 1) where
    -- as the next row's turn finds it
    pub added-listed : Listed D column (r + 1) from m keys₁ heads₁
    added-listed = subst (λ (n : ℕ). Listed D column n from m keys₁ heads₁) e x.listed

    pub added-room : from + count 512 (in_table D t) ≤ 4096 → m + count (r + 1) (in_table D t) ≤ 4096
    added-room b = omega (arith, x.room, ap (λ (n : ℕ). count n (in_table D t)) e)

    pub added-turn : p < 8 → (to : ℕ) (keys₂ heads₂ next₂ : List ℕ) → Put D column r from m keys₁ heads₁ next₁ to keys₂ heads₂ next₂
        → Added D column r from keys heads next to keys₂ heads₂ next₂
    added-turn o to keys₂ heads₂ next₂ y =
        record {
          listed = y.listed;
          room = omega (arith, x.room, y.room, ap (λ (n : ℕ). count n (in_table D t)) e);
          keys-long = y.keys-long ∙ x.keys-long;
          heads-long = y.heads-long ∙ x.heads-long;
          next-long = y.next-long ∙ x.next-long;
          keys_kept = λ i l. y.keys_kept i l ∙ x.keys_kept i l;
          heads-kept = λ i l. y.heads-kept i l ∙ x.heads-kept i l;
          done = λ s a b f. done s a b f (same_number s r);
          others = λ s c l ne. y.others s c l (λ w. ne (table_same s w.2 w.0, w.1)) ∙ x.others s c l ne;
        }
      where
        table_same : (s : ℕ) → s ≡ r → D.table r ≡ t → D.table s ≡ t
        table_same s a b = ap (λ (z : ℕ). D.table z) a ∙ b

        done : (s : ℕ) → r ≤ s → D.live s ≡ true → D.table s ≡ t → (s ≡ r) ⊎ (s ≡ r → ⊥) → get_or next₂ (8 * s + p) 0 ≡ next_of D s p
        done s a b f (inl z) =
            subst (λ (n : ℕ). get_or next₂ (8 * n + p) 0 ≡ next_of D n p) (sym z) (y.own (subst (λ (n : ℕ). D.table n ≡ t) z f))
        done s a b f (inr z) = y.others s p o (λ w. z w.2) ∙ x.done s (omega (arith, z)) b f

  pub added-end : (r m : ℕ) (keys₁ heads₁ next₁ : List ℕ) → r ≤ 0 → Added D column r from keys heads next m keys₁ heads₁ next₁
      → Added D column 0 from keys heads next m keys₁ heads₁ next₁
  added-end r m keys₁ heads₁ next₁ l x = let e : r ≡ 0 = omega arith in subst (λ (n : ℕ). Added D column n from keys heads next m keys₁ heads₁ next₁) e x
