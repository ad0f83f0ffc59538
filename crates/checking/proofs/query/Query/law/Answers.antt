use Rattle.checking.proofs.Queries.{query_tells}
use Rattle.checking.proofs.query.Query.law.Goals as goal
use Rattle.checking.specs.Query.{catalogue_of, entries_in, range_of, sensitivities_of}

pub returns : goal.returns
returns c =
    let q = c.args.self.now in
    query_tells (entries_in q) (catalogue_of q) (range_of q) (sensitivities_of q) q.typed
