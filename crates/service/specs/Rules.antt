-- What the rules of the services are made of: a rule turns what is held and a body's fields into what is held then and a reply.
use Rattle.std.specs.Prelude.{ℕ, Bool, true, false, List, Some, None, Option, Err}
use Rattle.service.specs.Bodies.{fields_of}
use Rattle.service.specs.Replies.{Reply, reply_bytes}
use Rattle.service.specs.declared.body.Fields.{Fields}
use Rattle.service.specs.declared.reply.Code.{Code}
use Rattle.service.specs.declared.reply.Code.TheVariants.{Malformed}

-- where the test holds: that code, and nothing changes; else what follows
abbrev pub code_if : {S : Type 0} → Bool → Code → S → S × Reply → S × Reply
code_if true code held next = (held, Err code)
code_if false code held next = next

-- an operation that is not known is code 1; a known one goes on
abbrev pub if_known : {O S : Type 0} → Option O → S → (O → S × Reply) → S × Reply
if_known None held next = (held, Err Malformed)
if_known (Some operation) held next = next operation

-- a rule at its pages and bytes: what a page holds, and the page of what is held
abbrev pub on_pages : {S : Type 0} → (List ℕ → S) → (S → List ℕ) → (S → Fields → S × Reply) → List ℕ → ℕ → List ℕ → List ℕ × List ℕ
on_pages held page_of rule page tablet body = (page_of (rule (held page) (fields_of body)).0, reply_bytes (rule (held page) (fields_of body)).1)
