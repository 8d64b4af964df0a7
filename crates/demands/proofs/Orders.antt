-- The commands of Orders, where their bytes stand in a script: each is read as itself, and a list of them as the actions in its order. Assumes nothing.
use Prim.Native.Nat.{ℕ, zero, suc, ◌+◌, ◌-◌, ◌*◌, ◌/◌, ◌%◌, ◌≤◌, ◌<◌}
use native.Mathlib.Omega.{arith}
use mathlib.Core.Path.{◌≡◌, refl, sym, ap, ap₂, subst, ◌∙◌}
use mathlib.Core.List.{List, [], ◌∷◌, ◌++◌, append-nil, append_assoc}
use lib.Dec.{lit<}
use lib.ListN.{length, get_or, length-append}
use Rattle.finite.proofs.Standing.{Stands, stands-part, stands_here, stands_at, stands-long}
use Rattle.state.specs.declared.operation.Operation.{Operation}
use Rattle.state.specs.declared.operation.Operation.TheVariants as O
use Rattle.state.specs.Meaning.{pair_back, range_back}
use Rattle.command.specs.declared.command.Command.{Command}
use Rattle.command.specs.declared.command.Command.TheVariants.{Operate, Remove}
use Rattle.command.specs.Bytes.{byte_at, u16_at, u32_at, u32_bytes}
use Rattle.command.specs.Commands.{operation_width, width_of, operation_at, held_value_at}
use Rattle.command.proofs.CommandLaws.{width-remove, width-operation, operands-remove, operands-operation, operation-old, operation-new, operation-refer, operation-name, operation-refer-range, at-end, at-whole}
use Rattle.writing.proofs.Standing.{Reads, u32-stands}
use Rattle.format.proofs.Lengths.{length-u32}
use Rattle.run.specs.Moments.{Action}
use Rattle.script.specs.Step.{Rooms}
use Rattle.run.specs.Runs.{action_then, actions_from}
use Rattle.demands.specs.Orders.{Order, removing, naming, referring, holding_range, order_bytes, order_action, OrderFits, orders_bytes, orders_actions}

-- ---- numbers below a bound

abbrev pub Within : ℕ → List ℕ → Type 0
Within m xs = (j : ℕ) → get_or xs j 0 < m

pub within-one : (m x : ℕ) (xs : List ℕ) → x < m → Within m xs → Within m (x ∷ xs)
within-one m x xs h s zero = h
within-one m x xs h s (suc j) = s j

pub within-append : (m : ℕ) (xs ys : List ℕ) → Within m xs → Within m ys → Within m (xs ++ ys)
within-append m [] ys a b = b
within-append m (x ∷ xs) ys a b = within-one m x (xs ++ ys) (a 0) (within-append m xs ys (λ j. a (suc j)) b)

none_within : Within 256 []
none_within j = lit< tt

u32-within : (v : ℕ) → Within 256 (u32_bytes v)
unfolding u32_bytes
u32-within v =
    let d = v / 16777216 % 256 in let c = v / 65536 % 256 in let b = v / 256 % 256 in
    within-one 256 (v % 256) (b ∷ c ∷ d ∷ []) (omega arith) (within-one 256 b (c ∷ d ∷ []) (omega arith)
    (within-one 256 c (d ∷ []) (omega arith) (within-one 256 d [] (omega arith) none_within)))

-- ---- one order

pub order-within : (o : Order) → OrderFits o → Within 256 (order_bytes o)
unfolding order_bytes OrderFits
order-within (removing n) f =
    let b = n / 256 in within-one 256 0x1E (n % 256 ∷ b ∷ []) (lit< tt) (within-one 256 (n % 256) (b ∷ []) (omega arith) (within-one 256 b [] (omega (arith, f)) none_within))
order-within (naming d) f = within-one 256 0x17 (d ∷ []) (lit< tt) (within-one 256 d [] f none_within)
order-within (referring p) f =
    let v = u32_bytes p.value.number in let i = p.value.issue in
    within-one 256 0x20 (p.filling ∷ (v ++ (i ∷ []))) (lit< tt)
    (within-one 256 p.filling (v ++ (i ∷ [])) f.0 (within-append 256 v (i ∷ []) (u32-within p.value.number) (within-one 256 i [] f.2 none_within)))
order-within (holding_range r) f =
    let v = u32_bytes r.low in let w = u32_bytes r.high in
    within-one 256 0x1A (r.filling ∷ (v ++ w)) (lit< tt)
    (within-one 256 r.filling (v ++ w) f.0 (within-append 256 v w (u32-within r.low) (u32-within r.high)))

width_of_order : Order → ℕ
width_of_order (removing n) = 3
width_of_order (naming d) = 2
width_of_order (referring p) = 7
width_of_order (holding_range r) = 10

order-long : (o : Order) → length (order_bytes o) ≡ width_of_order o
unfolding order_bytes width_of_order
order-long (removing n) = refl
order-long (naming d) = refl
order-long (referring p) = let e = length-u32 p.value.number in let f = length-append (u32_bytes p.value.number) (p.value.issue ∷ []) in omega (arith, e, f)
order-long (holding_range r) =
    let e = length-u32 r.low in let f = length-u32 r.high in let g = length-append (u32_bytes r.low) (u32_bytes r.high) in omega (arith, e, f, g)

widths : (o : Order) → (2 ≤ width_of_order o) × (width_of_order o ≤ 10)
unfolding width_of_order
widths (removing n) = (omega arith, omega arith)
widths (naming d) = (omega arith, omega arith)
widths (referring p) = (omega arith, omega arith)
widths (holding_range r) = (omega arith, omega arith)

command_of : Order → Command
command_of (removing n) = Remove n
command_of (naming d) = Operate (O.Name d)
command_of (referring p) = Operate (O.Refer (pair_back p))
command_of (holding_range r) = Operate (O.ReferRange (range_back r))

module _ (s : List ℕ) (i : ℕ) where
  -- an operation whose byte is b
  reads-operation : (b w : ℕ) (o : Operation) → byte_at s i ≡ b → 16 ≤ b → (b ≡ 29 → ⊥) → (b ≡ 30 → ⊥) → operation_width b ≡ w → 0 < w → i + w ≤ length s →
      o ≡ operation_at (byte_at s i) s i → Reads s i w (Operate o)
  reads-operation b w o e l p q f z h is =
      let many : 16 ≤ byte_at s i = omega (arith, e) in
      let p' : byte_at s i ≡ 29 → ⊥ = λ c. p (sym e ∙ c) in
      let q' : byte_at s i ≡ 30 → ⊥ = λ c. q (sym e ∙ c) in
      let x : width_of (byte_at s i) ≡ w = width-operation (byte_at s i) many p' q' ∙ ap operation_width e ∙ f in
      record {
        command = sym (ap Operate is ∙ operands-operation (byte_at s i) s i many p' q' ∙ at-whole s i (omega arith) (λ (c : width_of (byte_at s i) ≡ 0). omega arith) (omega arith));
        width = x;
      }

  reads-order : (o : Order) → OrderFits o → Stands s i (order_bytes o) → Reads s i (width_of_order o) (command_of o)
  unfolding order_bytes OrderFits width_of_order command_of u16_at operation_width
  reads-order (removing n) l h =
      let b : byte_at s i ≡ 30 = stands_here s _ i h (omega arith) in
      let low : byte_at s (i + 1) ≡ n % 256 = stands_at s _ i h 1 (omega arith) in
      let high : byte_at s (i + 2) ≡ n / 256 = stands_at s _ i h 2 (omega arith) in
      let high' : byte_at s (i + 1 + 1) ≡ n / 256 = ap (byte_at s) (omega arith) ∙ high in
      let r : n ≡ u16_at s (i + 1) = omega (arith, low, high') in
      let w : width_of (byte_at s i) ≡ 3 = width-remove (byte_at s i) b in
      let long : i + 3 ≤ length s = stands-long s _ i h in
      record {
        command = sym (operands-remove (byte_at s i) s i n r b ∙ at-whole s i (omega arith) (λ (z : width_of (byte_at s i) ≡ 0). omega arith) (omega arith));
        width = w;
      }
  reads-order (naming d) l h =
      let b : byte_at s i ≡ 23 = stands_here s _ i h (omega arith) in
      reads-operation 23 2 (O.Name d) b (omega arith) (λ z. omega (arith, z)) (λ z. omega (arith, z)) refl (omega arith) (stands-long s _ i h)
      (operation-name (byte_at s i) s i 0 d (sym (stands_at s _ i h 1 (omega arith))) b ∙ operation-old (byte_at s i) s i (omega (arith, b)))
  reads-order (referring p) l h =
      let head : List ℕ = 0x20 ∷ p.filling ∷ [] in
      let b : byte_at s i ≡ 32 = stands_here s _ i h (omega arith) in
      let long : i + 7 ≤ length s = let a = stands-long s _ i h in let e = length-u32 p.value.number in let f = length-append (u32_bytes p.value.number) (p.value.issue ∷ []) in omega (arith, a, e, f) in
      let f : byte_at s (i + 1) ≡ p.filling = stands_at s _ i h 1 (omega arith) in
      let x : u32_at s (i + 2) ≡ p.value.number =
      u32-stands s (i + 2) p.value.number l.1 (stands-part s _ head (u32_bytes p.value.number) (p.value.issue ∷ []) i (i + 2) h refl refl) in
      let t : Stands s (i + 6) (p.value.issue ∷ []) =
      stands-part s _ (head ++ u32_bytes p.value.number) (p.value.issue ∷ []) [] i (i + 6) h
      refl (let e = length-u32 p.value.number in omega arith) in
      let y : byte_at s (i + 6) ≡ p.value.issue = stands_here s _ (i + 6) t (omega arith) in
      let last : i + operation_width (byte_at s i) - 1 ≡ i + 6 = ap (λ (n : ℕ). i + operation_width n - 1) b ∙ omega arith in
      let issue : byte_at s (i + operation_width (byte_at s i) - 1) ≡ p.value.issue = ap (byte_at s) last ∙ y in
      let v : pair_back p ≡ held_value_at s (byte_at s (i + operation_width (byte_at s i) - 1)) i =
      λ j. record { filling = sym f j; value = record { number = sym x j; issue = sym issue j } } in
      let less : byte_at s i - 16 ≡ 16 = omega (arith, b) in
      reads-operation 32 7 (O.Refer (pair_back p)) b (omega arith) (λ z. omega (arith, z)) (λ z. omega (arith, z)) refl (omega arith) long
      (operation-refer (byte_at s i - 16) s i (byte_at s (i + operation_width (byte_at s i) - 1)) (pair_back p) v less ∙ operation-new (byte_at s i) s i (omega (arith, b)))
  reads-order (holding_range r) l h =
      let head : List ℕ = 0x1A ∷ r.filling ∷ [] in
      let b : byte_at s i ≡ 26 = stands_here s _ i h (omega arith) in
      let long : i + 10 ≤ length s = let a = stands-long s _ i h in let e = length-u32 r.low in let f = length-u32 r.high in let g = length-append (u32_bytes r.low) (u32_bytes r.high) in omega (arith, a, e, f, g) in
      let f : byte_at s (i + 1) ≡ r.filling = stands_at s _ i h 1 (omega arith) in
      let x : u32_at s (i + 2) ≡ r.low = u32-stands s (i + 2) r.low l.1 (stands-part s _ head (u32_bytes r.low) (u32_bytes r.high) i (i + 2) h refl refl) in
      let y : u32_at s (i + 6) ≡ r.high =
      u32-stands s (i + 6) r.high l.2
      (stands-part s _ (head ++ u32_bytes r.low) (u32_bytes r.high) [] i (i + 6) h (ap (λ (m : List ℕ). head ++ (u32_bytes r.low ++ m)) (sym (append-nil (u32_bytes r.high)))) (let e = length-u32 r.low in omega arith)) in
      reads-operation 26 10 (O.ReferRange (range_back r)) b (omega arith) (λ z. omega (arith, z)) (λ z. omega (arith, z)) refl (omega arith) long
      (operation-refer-range (byte_at s i) s i 0 (range_back r) (λ j. record { filling = sym f j; low = sym x j; high = sym y j }) b ∙ operation-old (byte_at s i) s i (omega (arith, b)))

-- ---- lists of them

pub record AllFit (os : List Order) : Type 0 where
  pub each : (front behind : List Order) (o : Order) → os ≡ front ++ (o ∷ behind) → OrderFits o

pub fit-first : (o : Order) (os : List Order) → AllFit (o ∷ os) → OrderFits o
fit-first o os f = f.each [] os o refl

pub fit-rest : (o : Order) (os : List Order) → AllFit (o ∷ os) → AllFit os
fit-rest o os f = record { each = λ front behind x e. f.each (o ∷ front) behind x (ap (λ (l : List Order). o ∷ l) e) }

pub fit-more : (o : Order) (os : List Order) → OrderFits o → AllFit os → AllFit (o ∷ os)
fit-more o os f a = record { each = λ front behind x e. go front behind x e }
  where
    go : (front behind : List Order) (x : Order) → o ∷ os ≡ front ++ (x ∷ behind) → OrderFits x
    go [] behind x e = let z : o ≡ x = cc in subst OrderFits z f
    go (y ∷ front) behind x e = let z : os ≡ front ++ (x ∷ behind) = cc in a.each front behind x z

pub orders-within : (os : List Order) → AllFit os → Within 256 (orders_bytes os)
unfolding orders_bytes
orders-within [] f = none_within
orders-within (o ∷ os) f = within-append 256 (order_bytes o) (orders_bytes os) (order-within o (fit-first o os f)) (orders-within os (fit-rest o os f))

pub orders-long : (os : List Order) → (length os ≤ length (orders_bytes os)) × (length (orders_bytes os) ≤ 10 * length os)
unfolding orders_bytes
orders-long [] = (omega arith, omega arith)
orders-long (o ∷ os) =
    let e = length-append (order_bytes o) (orders_bytes os) in let f = order-long o in let g = widths o in let h = orders-long os in
    (omega (arith, e, f, g.0, h.0), omega (arith, e, f, g.1, h.1))

order-acts : (s : List ℕ) (i : ℕ) (rooms : Rooms) (rest : List Action) (o : Order) → action_then s i (command_of o) rooms rest ≡ order_action o ∷ rest
unfolding command_of order_action
order-acts s i rooms rest (removing n) = refl
order-acts s i rooms rest (naming d) = refl
order-acts s i rooms rest (referring p) = refl
order-acts s i rooms rest (holding_range r) = refl

module _ (s : List ℕ) (rooms : Rooms) where
  -- a script that ends with them
  pub actions-are : (os : List Order) → AllFit os → (front : List ℕ) → s ≡ front ++ orders_bytes os → (n : ℕ) → length os ≤ n →
      actions_from n s rooms (length front) ≡ orders_actions os
  unfolding actions_from orders_bytes orders_actions
  actions-are [] w front e zero l = refl
  actions-are [] w front e (suc n) l =
      let long : length s ≤ length front = omega (arith, ap length (e ∙ append-nil front)) in
      ap (λ (c : Command). action_then s (length front) c rooms (actions_from n s rooms (length front + width_of (byte_at s (length front))))) (sym (at-end s (length front) long))
  actions-are (o ∷ os) w front e zero l = absurd (omega (arith, l))
  actions-are (o ∷ os) w front e (suc n) l =
      let r = reads-order s (length front) o (fit-first o os w) (record { front = front; behind = orders_bytes os; is = e; place = refl }) in
      let next : length front + width_of (byte_at s (length front)) ≡ length (front ++ order_bytes o) = omega (arith, r.width, order-long o, length-append front (order_bytes o)) in
      ap₂ (λ (c : Command) (j : ℕ). action_then s (length front) c rooms (actions_from n s rooms j)) r.command next ∙
      order-acts s (length front) rooms _ o ∙
      ap (λ (acts : List Action). order_action o ∷ acts)
      (actions-are os (fit-rest o os w) (front ++ order_bytes o) (e ∙ sym (append_assoc front (order_bytes o) (orders_bytes os))) n (omega (arith, l)))
