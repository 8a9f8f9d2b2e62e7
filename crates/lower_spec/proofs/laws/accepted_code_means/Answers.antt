use Rattle.lower_spec.proofs.Calls.{means}
use Rattle.lower_spec.proofs.laws.accepted_code_means.Goals as goal

pub returns : goal.returns
returns c = λ p code a l. means p code a.typed l (λ t founds below memories n. c.never_astray.ensures p a t founds n)
