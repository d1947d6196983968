use Rattle.rim_desc.proofs.PieceByPiece.{extended_by-append}
use Rattle.rim_desc.proofs.laws.extended_piece_by_piece.Goals as goal

pub returns : goal.returns
returns c = extended_by-append
