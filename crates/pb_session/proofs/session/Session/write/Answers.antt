use Rattle.pb_session.proofs.session.Session.write.Goals as goal

pub returns-in-Advise-clause-ok : goal.returns-in-Advise-clause-ok
returns-in-Advise-clause-ok c = rw c.in-Advise.is c.write_advise.ensures.ok
