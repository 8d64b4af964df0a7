-- `reason::explaining::explained` meets its contract: the sentence is composed first and stored last. Assumes nothing.
use Prim.Native.Nat.{ℕ}
use native.Mathlib.Omega.{arith}
use lib.ListN.{length-replicate}
use Rattle.reason.proofs.Replying.{reply-long, reply-given}
use Rattle.reason.proofs.explaining.explained.Goals as goal

pub put_reason-n-requires : goal.put_reason-n-requires
put_reason-n-requires c = let q = c.requires.r_bound in
    record { r_bound = (q.0, q.1, q.2, q.3, length-replicate {A = ℕ} 16384 0); catalogued = c.requires.catalogued }

pub returns-then-text-n : goal.returns-then-text-n
returns-then-text-n c = λ m e n h. reply-long _ e _ _ c.requires.r_bound.0 n h _ _ _ c.put_reason-n.ensures.1 c.if-text-n.true

pub returns : goal.returns
returns c = λ m e n h. reply-given _ e _ _ c.requires.r_bound.0 n h _ _ _ c.put_reason-n.ensures.1 c.if-text-n.false
    (omega (arith, c.put_reason-n.ensures.0, length-replicate {A = ℕ} 16384 0)) _ c.put_bytes.ensures.text
