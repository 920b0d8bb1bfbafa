-- The clauses of soundness, each a sentence of document 01, "The map", or of document 02, (b), in the order in which they are told; and the tables, in the
-- order of the calls. The clause of (b) came last and has the last number, so that the others keep theirs.
use Rattle.std.specs.Prelude.{ℕ}
use Rattle.row_faults.specs.declared.Clause.{Clause}
use Rattle.row_faults.specs.declared.Clause.TheVariants.{Counts, Marks, Kinds, Ids, Names, Links, Lines, Repeats, Points, Returns, Neighbors}
use Rattle.row_faults.specs.declared.Table.{Table}
use Rattle.row_faults.specs.declared.Table.TheVariants.{Lane, Boundary, Road, Junction, Rule, StopLine, Crosswalk, Coordinate}

abbrev pub clause_number : Clause → ℕ
-- "counts keep these limits and the lent lengths"
clause_number Counts = 1
-- marks are 0 or 1 (2 in a neighbour's slot), and the lists within a row keep their limits
clause_number Marks = 2
-- "kinds are legal", and handles are in range
clause_number Kinds = 3
-- "ids ascend strictly in each table"
clause_number Ids = 4
-- "every id still to be allocated exceeds every id in the map, those of absent things named in it too"
clause_number Names = 5
-- "link lists ascend strictly"
clause_number Links = 6
-- each line's points lie among those stored, 256 at most, their coordinates finite within ±2^24
clause_number Lines = 7
-- "no lane stands twice in a road, a junction, or one list of a rule"
clause_number Repeats = 11
-- "no stored point belongs to two lines"
clause_number Points = 8
-- links "name present lanes and are reciprocal"
clause_number Returns = 9
-- "a neighbour names the lane back"
clause_number Neighbors = 10

abbrev pub table_number : Table → ℕ
table_number Lane = 0
table_number Boundary = 1
table_number Road = 2
table_number Junction = 3
table_number Rule = 4
table_number StopLine = 5
table_number Crosswalk = 6
table_number Coordinate = 7
