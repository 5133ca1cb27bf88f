-- What a picture comes to by the place behind it.
-- Inside: no claim reaches these definitions; a reader of the claims need not believe them. Assumes nothing.
use Rattle.std.specs.Prelude.{◌≡◌, List, ℕ, Result, Ok, Err}
use Rattle.commands.specs.declared.Answer.{Answer}
use Rattle.appending.specs.inside.Appending.{beyond}
use Rattle.commands.specs.Answers.{denying, fitted}
use Rattle.commands.specs.Promises.{Says}
use Rattle.drawings.specs.Pictures.{long_picture}

-- What a picture comes to by its end: where it does not fit, that is said.
abbrev pub Finished : ℕ → List ℕ → Result ℕ Answer → Type 0
Finished end answer (Ok n) = (end ≡ n) × (end ≡ beyond → ⊥)
Finished end answer (Err a) = (end ≡ beyond) × Says (fitted (denying long_picture)) answer a
