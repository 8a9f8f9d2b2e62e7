use Rattle.std.proofs.Common.{◌∙◌, ◌++◌, ap, ap₂}
use Rattle.json.specs.Print.{print}
use Rattle.pages.specs.Content.{data_of}
use Rattle.pages.specs.Data.{data_tokens}
use Rattle.pages.proofs.data.data_text.Goals as goal

pub returns : goal.returns
returns g c =
    c.into_inner.ensures.items
    ∙ ap₂ (λ before tokens. before ++ print tokens) (c.in_ok-put_data.ensures.before ∙ c.new-object.ensures.before ∙ c.new.ensures.items) (c.in_ok-put_data.ensures.tokens ∙ ap (λ l. l ++ data_tokens (data_of c.args.page.now)) c.new-object.ensures.tokens)
