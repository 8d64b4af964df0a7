-- `sizes::sizing::sizes_lawful` meets its contract: the words of a query, the text of a reason, and nothing of any other. Assumes nothing.
use Rattle.sizes.proofs.SizeLaws.{query-takes, reason-takes, plain-takes}
use Rattle.sizes.proofs.sizing.sizes_lawful.Goals as goal

pub returns-in-Query : goal.returns-in-Query
returns-in-Query c = query-takes _ c.requires.0 _ _ c.in-Query.is _ c.query_words-words.ensures

pub returns-in-Reason : goal.returns-in-Reason
returns-in-Reason c = reason-takes _ c.requires.0 _ _ c.in-Reason.is _ c.reason_bytes-text.ensures

pub returns-in_default : goal.returns-in_default
returns-in_default c = plain-takes _ c.requires.0 c.args.op c.in_default.not-Query c.in_default.not-Reason
