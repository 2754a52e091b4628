-- `notation::put_decimal` meets its contract. Assumes nothing.
use borrow.Author.Rules.{rules}
use Rattle.notation.specs.Puts.{put_none, put_one, put_both}
use Rattle.notation.specs.ShownTurns.{decimal_none, decimal_one, decimal_more}
use Rattle.notation.proofs.+put_decimal.Goals as goal

pub returns-then-most-eq0 : goal.returns-then-most-eq0
returns-then-most-eq0 t c = record {
  put = rw (decimal_none _ _ c.if-most-eq0.true) (put_none _ _);
  upper_bound = search rules;
}

pub returns-then-n-lt10 : goal.returns-then-n-lt10
returns-then-n-lt10 t c = record {
  put = rw (decimal_one c.args.most c.args.n (search rules) (search rules)) (put_one _ _ _ _ c.put.ensures);
  upper_bound = search rules;
}

pub returns : goal.returns
returns t c = record {
  put = rw (decimal_more c.args.most c.args.n (search rules) (search rules))
      (put_both _ _ _ _ _ _ _ _ c.put_decimal-end.ensures.put (put_one _ _ _ _ c.put-2.ensures));
  upper_bound = search rules;
}
