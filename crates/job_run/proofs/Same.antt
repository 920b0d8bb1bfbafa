-- The slices of a map or of lists stay the same from call to call. Assumes nothing.
use mathlib.Core.Path.{refl, ◌∙◌}
use Rattle.lent.specs.declared.Map.{Map}
use Rattle.lent.specs.declared.Lists.{Lists}
use Rattle.lent.specs.Lent.{SameSlices, SameLists}

pub same-refl : (m : Map) → SameSlices m m
same-refl m =
    record {
      lanes = refl;
      lanes_length = refl;
      boundaries = refl;
      boundaries_length = refl;
      roads = refl;
      roads_length = refl;
      junctions = refl;
      junctions_length = refl;
      rules = refl;
      rules_length = refl;
      stop_lines = refl;
      stop_lines_length = refl;
      crosswalks = refl;
      crosswalks_length = refl;
      coordinates = refl;
      coordinates_length = refl;
    }

pub same-trans : {a b c : Map} → SameSlices a b → SameSlices b c → SameSlices a c
same-trans p q =
    record {
      lanes = q.lanes ∙ p.lanes;
      lanes_length = q.lanes_length ∙ p.lanes_length;
      boundaries = q.boundaries ∙ p.boundaries;
      boundaries_length = q.boundaries_length ∙ p.boundaries_length;
      roads = q.roads ∙ p.roads;
      roads_length = q.roads_length ∙ p.roads_length;
      junctions = q.junctions ∙ p.junctions;
      junctions_length = q.junctions_length ∙ p.junctions_length;
      rules = q.rules ∙ p.rules;
      rules_length = q.rules_length ∙ p.rules_length;
      stop_lines = q.stop_lines ∙ p.stop_lines;
      stop_lines_length = q.stop_lines_length ∙ p.stop_lines_length;
      crosswalks = q.crosswalks ∙ p.crosswalks;
      crosswalks_length = q.crosswalks_length ∙ p.crosswalks_length;
      coordinates = q.coordinates ∙ p.coordinates;
      coordinates_length = q.coordinates_length ∙ p.coordinates_length;
    }

pub same-lists-refl : (l : Lists) → SameLists l l
same-lists-refl l =
    record {
      created = refl;
      created_length = refl;
      modified = refl;
      modified_length = refl;
      deleted = refl;
      deleted_length = refl;
      warnings = refl;
      warnings_length = refl;
    }

pub same-lists-trans : {a b c : Lists} → SameLists a b → SameLists b c → SameLists a c
same-lists-trans p q =
    record {
      created = q.created ∙ p.created;
      created_length = q.created_length ∙ p.created_length;
      modified = q.modified ∙ p.modified;
      modified_length = q.modified_length ∙ p.modified_length;
      deleted = q.deleted ∙ p.deleted;
      deleted_length = q.deleted_length ∙ p.deleted_length;
      warnings = q.warnings ∙ p.warnings;
      warnings_length = q.warnings_length ∙ p.warnings_length;
    }
