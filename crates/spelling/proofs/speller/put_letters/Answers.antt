use Rattle.spelling.proofs.Letters.{filled_part}
use Rattle.spelling.proofs.speller.put_letters.Goals as goal

pub returns : goal.returns
returns c =
    filled_part c.args.n c.args.at c.args.letter c.args.word.now c.fill.new.self c.requires
    (c.fill.ensures.after (λ y e. e))
