use Rattle.std.proofs.Common.{refl}
use Rattle.lines.proofs.KeptBytes.{kept_out, kept_copy}
use Rattle.lines.proofs.keeping.keep_all.Goals as goal

pub returns-then-line-held : goal.returns-then-line-held
returns-then-line-held c = kept_out c.if-line-held.true

pub returns : goal.returns
returns c = kept_copy c.if-line-held.false refl c.copy_bytes.ensures.count c.copy_bytes.ensures.copied
