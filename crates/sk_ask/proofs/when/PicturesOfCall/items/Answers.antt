use Rattle.sk_ask.proofs.when.PicturesOfCall.items.Goals as goal

pub returns-in_ok-picture-in-Some : goal.returns-in_ok-picture-in-Some
returns-in_ok-picture-in-Some g c =
    record { told = rw (c.in-Some.is, c.into_bytes.ensures.value) c.in_ok-picture-in-Some.ensures.picture }
