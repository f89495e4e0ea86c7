-- What holds of a rule's outcome: by the test that settled it.
use Rattle.std.specs.Prelude.{◌≡◌, Bool, true, false, Some, None, Option, refl, Err}
use Rattle.service.specs.Replies.{Reply}
use Rattle.service.specs.Rules.{code_if, if_known}
use Rattle.service.specs.declared.reply.Code.{Code}
use Rattle.service.specs.declared.reply.Code.TheVariants.{Malformed}

pub code_if_both : {S : Type 0} (P : S × Reply → Type 0) (test : Bool) (code : Code) (held : S) (next : S × Reply) → (test ≡ true → P (held, Err code)) → (test ≡ false → P next) → P (code_if test code held next)
code_if_both P true code held next stop go = stop refl
code_if_both P false code held next stop go = go refl

pub if_known_both : {O S : Type 0} (P : S × Reply → Type 0) (o : Option O) (held : S) (next : O → S × Reply) → P (held, Err Malformed) → ((operation : O) → o ≡ Some operation → P (next operation)) → P (if_known o held next)
if_known_both P None held next stop go = stop
if_known_both P (Some operation) held next stop go = go operation refl
