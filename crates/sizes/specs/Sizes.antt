-- How much an operation writes where enough is lent: the answer words of its lists (01, cause 11), and the bytes of a reason (02, Req 08). Assumes nothing.
use Rattle.std.specs.Prelude.{ℕ, ◌^◌, cond, length, get_or}
use Rattle.model.specs.Answers.{Answer, shown, has_text}
use Rattle.state.specs.declared.operation.Operation.{Operation}
use Rattle.state.specs.Meaning.{operation_of}
use Rattle.state.specs.Lent.{State, words_at, text_at}

-- more than the words of any lists, of which there are at most 512 ^ 5 of five words each, and than the bytes of any reason, which are at most 16,384
abbrev pub ample : ℕ
ample = 2 ^ 48

-- the answer words that the operation takes: `sizes-enough` and `sizes-needed` of proofs/SizeLaws.antt say that so many are enough, and that fewer are not
unfoldable pub words_taken : State → Operation → ℕ
words_taken s op = length (words_at s (operation_of op ample ample))

-- and the bytes of text
unfoldable pub text_taken : State → Operation → ℕ
text_taken s op = length (text_at s (operation_of op ample ample))

-- the length of the text that an answer tells of: a reason's number, and 0 with any other
unfoldable pub bytes_in : Answer → ℕ
bytes_in a = cond (has_text a) (get_or (shown a).numbers 0 0) 0
