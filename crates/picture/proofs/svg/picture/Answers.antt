use Rattle.picture.proofs.svg.picture.Goals as goal

pub returns : goal.returns
returns g c = rw c.as_slice-2.ensures.value at c.picture_text.ensures
