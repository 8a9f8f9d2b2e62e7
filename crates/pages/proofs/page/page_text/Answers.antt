use Rattle.std.proofs.Common.{◌∙◌, ◌++◌, append_assoc, ap, ap₂}
use Rattle.json.specs.Print.{print}
use Rattle.pages.specs.Content.{data_of}
use Rattle.pages.specs.Data.{data_tokens}
use Rattle.pages.specs.Escaped.{escaped_text}
use Rattle.pages.specs.declared.text.TheConstants.{HEAD, TAIL}
use Rattle.pages.proofs.page.page_text.Goals as goal

pub returns : goal.returns
returns g c =
    c.in_ok-extend_from_slice.ensures.items
    ∙ ap (λ l. l ++ TAIL.now) (c.in_ok-push_escaped.ensures ∙ ap₂ (λ l d. l ++ escaped_text d) c.in_ok-text.ensures.items (c.as_slice.ensures.value ∙ c.in_ok-data.ensures))
    ∙ append_assoc HEAD.now (escaped_text (print (data_tokens (data_of c.args.page.now)))) TAIL.now
