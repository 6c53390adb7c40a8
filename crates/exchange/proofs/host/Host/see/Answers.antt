use Rattle.exchange.proofs.host.Host.see.Goals as goal

pub returns : goal.returns
returns g c = c.add.ensures
